-- The least of what a list gives.
use Rattle.std.proofs.Common.{◌≡◌, ℕ, Bool, true, false, true≢false, ◌||◌, cond, inl, inr, List, [], ◌∷◌, Option, Some}
use Rattle.std.proofs.Common.{None, IfSome, IfNone, filter, filter_map, refl, sym, ap, subst, ◌∙◌}
use Rattle.std.specs.List.{cons_option, list_any}
use Rattle.object.specs.Lists.{In}
use Rattle.job_store.specs.Entries.{Rising}
use Rattle.job_store.specs.Least.{IsLeast, NonePasses, least}
use Rattle.job_store.proofs.least.Least.{least-found, least-none, least-only}

-- Lists with the same elements have the same least

module _ {X : Type 0} (test test' : ℕ × X → Bool) (by : X → ℕ) where
  nothing_passes : (cs : List (ℕ × X)) → least test' by cs ≡ None → (e : ℕ × X) → In e cs × (test' e ≡ true) → ⊥
  nothing_passes cs none e there = (subst (λ o. IfNone o (NonePasses test' cs)) none (least-none test' by cs)) e there.0 there.1

  pub least_alike : (es cs : List (ℕ × X)) (lo hi : ℕ) → Rising lo hi es
      → ((e : ℕ × X) → In e cs → test' e ≡ true → In e es × (test e ≡ true))
      → ((e : ℕ × X) → In e es → test e ≡ true → In e cs × (test' e ≡ true)) → least test' by cs ≡ least test by es
  least_alike es cs lo hi r back forth =
      elim (least test' by cs) as (λ o. least test' by cs ≡ o → IfSome o (IsLeast test' by cs) → o ≡ least test by es) [
        | None ↦ λ none _.
            elim (least test by es) as (λ o. IfSome o (IsLeast test by es) → None ≡ o) [
              | None ↦ λ _. refl
              | Some e ↦ λ found. absurd (nothing_passes cs none e (forth e found.member found.passes))
            ] (least-found test by es)
        | Some e ↦ λ some found.
            let there = back e found.member found.passes in
            sym (least-only test by es lo hi e r (record {
              member = there.0;
              passes = there.1;
              least = λ d i v. let other = forth d i v in found.least d other.0 other.1;
            }))
      ] refl (least-found test' by cs)

-- What a list gives

module _ {A B : Type 0} (f : A → Option B) where
  pub mapped-in : (a : A) (b : B) (xs : List A) → In a xs → f a ≡ Some b → In b (filter_map f xs)
  mapped-in a b [] i e = absurd i
  mapped-in a b (x ∷ xs) (inl same) e = rw (ap f (sym same) ∙ e) (inl refl)
  mapped-in a b (x ∷ xs) (inr later) e =
      elim (f x) as (λ o. In b (cons_option o (filter_map f xs))) [ None ↦ mapped-in a b xs later e | Some c ↦ inr (mapped-in a b xs later e) ]

  pub mapped-from : (b : B) (xs : List A) → In b (filter_map f xs) → (a : A) × In a xs × (f a ≡ Some b)
  mapped-from b [] i = absurd i
  mapped-from b (x ∷ xs) i =
      elim (f x) as (λ o. f x ≡ o → In b (cons_option o (filter_map f xs)) → (a : A) × In a (x ∷ xs) × (f a ≡ Some b)) [
        | None ↦ λ e i. let r = mapped-from b xs i in (r.0, inr r.1, r.2)
        | Some c ↦ λ e i.
            elim i as (λ i. (a : A) × In a (x ∷ xs) × (f a ≡ Some b)) [
              | inl same ↦ (x, inl refl, e ∙ ap Some (sym same))
              | inr later ↦ let r = mapped-from b xs later in (r.0, inr r.1, r.2)
            ]
      ] refl i

pub filtered-in : {A : Type 0} (test : A → Bool) (a : A) (xs : List A) → In a xs → test a ≡ true → In a (filter test xs)
filtered-in test a [] i e = absurd i
filtered-in test a (x ∷ xs) (inl same) e = rw (ap test (sym same) ∙ e) (inl same)
filtered-in test a (x ∷ xs) (inr later) e =
    elim (test x) as (λ b. In a (cond b (x ∷ filter test xs) (filter test xs))) [
      | true ↦ inr
          (filtered-in test a xs later e)
      | false ↦ filtered-in test a xs later e
    ]

-- One of a list that passes a test

module _ {X : Type 0} (f : X → Bool) where
  pub any-in : (xs : List X) → list_any f xs ≡ true → (x : X) × In x xs × (f x ≡ true)
  any-in [] e = absurd (true≢false (sym e))
  any-in (x ∷ xs) e =
      elim (f x) as (λ b. f x ≡ b → (b || list_any f xs) ≡ true → (y : X) × In y (x ∷ xs) × (f y ≡ true)) [
        | true ↦ λ t _. (x, inl refl, t)
        | false ↦ λ _ e. let h = any-in xs e in (h.0, inr h.1, h.2)
      ] refl e

  pub in-any : (xs : List X) (x : X) → In x xs → f x ≡ true → list_any f xs ≡ true
  in-any [] x i t = absurd i
  in-any (y ∷ ys) x i t = elim i as (λ _. list_any f (y ∷ ys) ≡ true) [
    | inl same ↦ ap (λ b. b || list_any f ys) (ap f (sym same) ∙ t)
    | inr more ↦ elim (f y) as (λ b. (b || list_any f ys) ≡ true) [ true ↦ refl | false ↦ in-any ys x more t ]
  ]
