-- Elements of lists, of mapped lists, and of entries into which one was put.
use Rattle.std.proofs.Common.{◌≡◌, ◌⊎◌, inl, inr, ⊎_elim, ℕ, ◌<◌, Bool, true, false, ◌&&◌, cond, List, [], ◌∷◌, ◌++◌}
use Rattle.std.proofs.Common.{Some, map, refl, sym, ap, subst, ◌∙◌, arith, Less, Equal, Greater}
use Rattle.std.specs.Prelude.{T}
use Rattle.std.proofs.lemmas.Bool.Decides.{nat_tests}
use Rattle.std.proofs.lemmas.Option.{same_Some}
use Rattle.std.specs.Ordering.{nat_cmp, eq_by_cmp, is_lt}
use Rattle.std.specs.FinMap.{nat_cmp-IsAntisymmetric}
use Rattle.std.specs.FinMap.Entries.{by_order, put, find, below_all, is_sorted}
use Rattle.object.specs.Lists.{In}

pub in_cases : {A : Type 0} (x : A) (xs : List A) (y : A) → In x (xs ++ y ∷ []) → In x xs ⊎ (x ≡ y)
in_cases x [] y (inl e) = inr e
in_cases x [] y (inr i) = absurd i
in_cases x (z ∷ zs) y (inl e) = inl (inl e)
in_cases x (z ∷ zs) y (inr i) = ⊎_elim (λ (j : In x zs). inl (inr j)) (λ (e : x ≡ y). inr e) (in_cases x zs y i)

pub in_left : {A : Type 0} (x : A) (xs ys : List A) → In x xs → In x (xs ++ ys)
in_left x [] ys i = absurd i
in_left x (z ∷ zs) ys (inl e) = inl e
in_left x (z ∷ zs) ys (inr i) = inr (in_left x zs ys i)

pub in_last : {A : Type 0} (xs : List A) (y : A) → In y (xs ++ y ∷ [])
in_last [] y = inl refl
in_last (z ∷ zs) y = inr (in_last zs y)

pub in_map : {A B : Type 0} (f : A → B) (x : A) (xs : List A) → In x xs → In (f x) (map f xs)
in_map f x [] i = absurd i
in_map f x (y ∷ ys) (inl e) = inl (ap f e)
in_map f x (y ∷ ys) (inr i) = inr (in_map f x ys i)

-- an element of a mapped list is made of one
pub made_of : {A B : Type 0} (f : A → B) (z : B) (xs : List A) → In z (map f xs) → (x : A) × In x xs × (z ≡ f x)
made_of f z [] i = absurd i
made_of f z (y ∷ ys) (inl e) = (y, inl refl, e)
made_of f z (y ∷ ys) (inr i) = let m = made_of f z ys i in (m.0, inr m.1, m.2)

module _ {X : Type 0} (k : ℕ) (v : X) where
  -- the new entry is there
  pub put_here : (es : List (ℕ × X)) → In (k, v) (put nat_cmp k v es)
  put_here [] = inl refl
  put_here (e ∷ es) =
      elim (nat_cmp k e.0) as (λ o. nat_cmp k e.0 ≡ o → In (k, v) (by_order o ((k, v) ∷ e ∷ es) ((e.0, v) ∷ es) (e ∷ put nat_cmp k v es))) [
        | Less ↦ λ h. inl refl
        | Equal ↦ λ h. inl (ap (λ q. (q, v)) (nat_cmp-IsAntisymmetric k e.0 h))
        | Greater ↦ λ h. inr (put_here es)
      ] refl

  -- nothing else is new
  pub put_only : (es : List (ℕ × X)) (x : ℕ × X) → In x (put nat_cmp k v es) → In x es ⊎ (x ≡ (k, v))
  put_only [] x (inl e) = inr e
  put_only [] x (inr i) = absurd i
  put_only (e ∷ es) x i =
      elim (nat_cmp k e.0) as (λ o. nat_cmp k e.0 ≡ o
      → In x (by_order o ((k, v) ∷ e ∷ es) ((e.0, v) ∷ es) (e ∷ put nat_cmp k v es)) → In x (e ∷ es) ⊎ (x ≡ (k, v))) [
        | Less ↦ λ h j. elim j as (λ j. In x (e ∷ es) ⊎ (x ≡ (k, v))) [ inl same ↦ inr same | inr there ↦ inl there ]
        | Equal ↦ λ h j. elim j as (λ j. In x (e ∷ es)
            ⊎ (x ≡ (k, v))) [
              | inl same ↦ inr
                  (same ∙ ap (λ q. (q, v)) (sym (nat_cmp-IsAntisymmetric k e.0 h)))
              | inr there ↦ inl (inr there)
            ]
        | Greater ↦ λ h j. elim j as (λ j. In x (e ∷ es) ⊎ (x ≡ (k, v))) [
          | inl same ↦ inl (inl same)
          | inr there ↦ ⊎_elim (λ (i : In x es). inl (inr i)) (λ (e : x ≡ (k, v)). inr e) (put_only es x there)
        ]
      ] refl i

  -- an old entry stays, unless it is of the same key
  pub put_keeps : (es : List (ℕ × X)) (x : ℕ × X) → In x es → In x (put nat_cmp k v es) ⊎ (x.0 ≡ k)
  put_keeps [] x i = absurd i
  put_keeps (e ∷ es) x i =
      elim (nat_cmp k e.0) as (λ o. nat_cmp k e.0 ≡ o → In x (by_order o ((k, v) ∷ e ∷ es) ((e.0, v) ∷ es) (e ∷ put nat_cmp k v es)) ⊎ (x.0 ≡ k)) [
        | Less ↦ λ h. inl (inr i)
        | Equal ↦ λ h. elim i as (λ i. In x ((e.0, v) ∷ es)
            ⊎ (x.0 ≡ k)) [
              | inl same ↦ inr (ap (λ (p : ℕ × X). p.0) same ∙ sym (nat_cmp-IsAntisymmetric k e.0 h))
              | inr
                  there ↦ inl (inr there)
            ]
        | Greater ↦ λ h. elim i as (λ i. In x (e ∷ put nat_cmp k v es) ⊎ (x.0 ≡ k)) [
          | inl same ↦ inl (inl same)
          | inr there ↦ ⊎_elim (λ (j : In x (put nat_cmp k v es)). inl (inr j)) (λ (e : x.0 ≡ k). inr e) (put_keeps es x there)
        ]
      ] refl

first : (a b : Bool) → T (a && b) → T a
first true b p = tt
first false b p = p

second : (a b : Bool) → T (a && b) → T b
second true b p = p
second false b p = absurd p

-- an entry that is found is one of them
pub found_in : {X : Type 0} (k : ℕ) (x : X) (es : List (ℕ × X)) → find nat_cmp k es ≡ Some x → In (k, x) es
found_in k x [] h = absurd (cc)
found_in {X} k x (e ∷ es) h =
    elim (eq_by_cmp nat_cmp k e.0) as (λ b. eq_by_cmp nat_cmp k e.0 ≡ b → cond b (Some e.1) (find nat_cmp k es) ≡ Some x → In (k, x) (e ∷ es)) [
      | true ↦ λ t is. let same : k ≡ e.0 = grind (arith, nat_tests, t) in inl (λ i. (same i, sym (same_Some e.1 x is) i))
      | false ↦ λ t is. inr (found_in k x es is)
    ] refl h

after : {X : Type 0} (k : ℕ) (x : ℕ × X) (es : List (ℕ × X)) → T (below_all nat_cmp k es) → In x es → k < x.0
after k x [] h i = absurd i
after k x (e ∷ es) h (inl same) =
    let low = first (is_lt (nat_cmp k e.0)) (below_all nat_cmp k es) h in
    let less : k < e.0 = grind (arith, nat_tests, low) in
    subst (λ n. k < n) (sym (ap (λ (p : ℕ × _). p.0) same)) less
after k x (e ∷ es) h (inr i) = after k x es (second (is_lt (nat_cmp k e.0)) (below_all nat_cmp k es) h) i

-- and of entries in rising key each is found
pub in_found : {X : Type 0} (x : ℕ × X) (es : List (ℕ × X)) → T (is_sorted nat_cmp es) → In x es → find nat_cmp x.0 es ≡ Some x.1
in_found x [] h i = absurd i
in_found x (e ∷ es) h (inl same) =
    let key : x.0 ≡ e.0 = ap (λ (p : ℕ × _). p.0) same in
    let own : eq_by_cmp nat_cmp x.0 e.0 ≡ true = grind (arith, nat_tests, key) in
    ap (λ b. cond b (Some e.1) (find nat_cmp x.0 es)) own ∙ ap (λ (p : ℕ × _). Some p.1) (sym same)
in_found x (e ∷ es) h (inr i) =
    let less = after e.0 x es (first (below_all nat_cmp e.0 es) (is_sorted nat_cmp es) h) i in
    let other : eq_by_cmp nat_cmp x.0 e.0 ≡ false = grind (arith, nat_tests, less) in
    ap (λ b. cond b (Some e.1) (find nat_cmp x.0 es)) other ∙ in_found x es (second (below_all nat_cmp e.0 es) (is_sorted nat_cmp es) h) i
