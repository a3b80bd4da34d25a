-- Which entries a finite map has, before and after a change.
use Rattle.std.proofs.Common.{◌≡◌, ℕ, true, false, inl, inr, ◌⊎◌, List, [], ◌∷◌, Some, cond, not, ◌==◌, nat_cmp, Less, Equal}
use Rattle.std.proofs.Common.{Greater, refl, sym, ap, ap₂, subst, ◌∙◌, eq-eqb, ne_eqb}
use Rattle.std.proofs.lemmas.Bool.{both_ways, cases_eq, cases_order, cond-true, cond-false}
use Rattle.std.specs.Ordering.{match_ordering}
use Rattle.std.specs.BTreeMap.{insert_entry}
use Rattle.object.specs.Lists.{In}
use Rattle.job_store.specs.Entries.{Rising, value_at, altered, without}
use Rattle.job_store.specs.EntryLaws.{value_at-here, value_at-next, cmp_less, cmp_equal, cmp_greater, value_at-In}
use Rattle.job_store.proofs.maps.Entries.{same_number}

module _ {X : Type 0} where
  pub value-in : (k : ℕ) (v : X) (es : List (ℕ × X)) → value_at k es ≡ Some v → In (k, v) es
  value-in k v [] e = cc
  value-in k v (d ∷ es) e =
      elim (cases_eq k d.0) [
        | inl same ↦
            let it : Some d.1 ≡ Some v = sym (value_at-here k d es same) ∙ e in
            let value : d.1 ≡ v = cc in
            inl (ap₂ (λ a b. (a, b)) same (sym value))
        | inr apart ↦ inr (value-in k v es (sym (value_at-next k d es apart) ∙ e))
      ]

  -- One value is changed

  pub altered-was : (k : ℕ) (f : X → X) (e : ℕ × X) (es : List (ℕ × X)) → In e (altered k f es) → (d : ℕ × X) × In d es
      × (e ≡ (d.0, cond (k == d.0) (f d.1) d.1))
  altered-was k f e [] i = absurd i
  altered-was k f e (d ∷ es) (inl here) = (d, inl refl, here)
  altered-was k f e (d ∷ es) (inr later) = let w = altered-was k f e es later in (w.0, inr w.1, w.2)

  pub altered-has : (k : ℕ) (f : X → X) (d : ℕ × X) (es : List (ℕ × X)) → In d es → In (d.0, cond (k == d.0) (f d.1) d.1) (altered k f es)
  altered-has k f d [] i = absurd i
  altered-has k f d (z ∷ es) (inl here) = inl (ap (λ (y : ℕ × X). (y.0, cond (k == y.0) (f y.1) y.1)) here)
  altered-has k f d (z ∷ es) (inr later) = inr (altered-has k f d es later)

  pub altered-new : (k lo hi : ℕ) (f : X → X) (v : X) (e : ℕ × X) (es : List (ℕ × X)) → Rising lo hi es
      → value_at k es ≡ Some v → In e (altered k f es) → In e es ⊎ (e ≡ (k, f v))
  altered-new k lo hi f v e es r there i =
      let w = altered-was k f e es i in
      elim (cases_eq k w.0.0) [
        | inl same ↦
            let both : Some w.0.1 ≡ Some v = sym (value_at-In lo hi es w.0 r w.1) ∙ ap (λ n. value_at n es) (sym same) ∙ there in
            let value : w.0.1 ≡ v = cc in
            inr (w.2 ∙ ap₂ (λ a b. (a, b)) (sym same) (cond-true (k == w.0.0) (f w.0.1) w.0.1 (eq-eqb k w.0.0 same) ∙ ap f value))
        | inr apart ↦
            inl (subst (λ d. In d es) (sym (w.2 ∙ ap (λ y. (w.0.0, y)) (cond-false (k == w.0.0) (f w.0.1) w.0.1 (ne_eqb k w.0.0 apart)))) w.1)
      ]

  pub altered-old : (k lo hi : ℕ) (f : X → X) (v : X) (d : ℕ × X) (es : List (ℕ × X)) → Rising lo hi es
      → value_at k es ≡ Some v → In d es → In d (altered k f es) ⊎ (d ≡ (k, v))
  altered-old k lo hi f v d es r there i =
      elim (cases_eq k d.0) [
        | inl same ↦
            let both : Some d.1 ≡ Some v = sym (value_at-In lo hi es d r i) ∙ ap (λ n. value_at n es) (sym same) ∙ there in
            let value : d.1 ≡ v = cc in
            inr (ap₂ (λ a b. (a, b)) (sym same) value)
        | inr apart ↦
            inl (subst (λ y. In (d.0, y) (altered k f es)) (cond-false (k == d.0) (f d.1) d.1 (ne_eqb k d.0 apart)) (altered-has k f d es i))
      ]

  pub altered-here : (k : ℕ) (f : X → X) (v : X) (es : List (ℕ × X)) → value_at k es ≡ Some v → In (k, f v) (altered k f es)
  altered-here k f v es there =
      subst (λ y. In (k, y) (altered k f es)) (cond-true (k == k) (f v) v (eq-eqb k k refl)) (altered-has k f (k, v) es (value-in k v es there))

  -- An entry is put

  pub inserted-new : (k : ℕ) (v : X) (e : ℕ × X) (es : List (ℕ × X)) → In e (insert_entry nat_cmp es k v) → In e es ⊎ (e ≡ (k, v))
  inserted-new k v e [] (inl here) = inr here
  inserted-new k v e [] (inr later) = absurd later
  inserted-new k v e (d ∷ es) i =
      elim (cases_order k d.0) [
        | inl same ↦
            elim (subst (λ o. In e (match_ordering o ((k, v) ∷ d ∷ es) ((d.0, v) ∷ es)
            (d ∷ insert_entry nat_cmp es k v))) (cmp_equal k d.0 same) i) as (λ i. In e (d ∷ es) ⊎ (e ≡ (k, v))) [
              | inl here ↦ inr (here ∙ ap (λ a. (a, v)) (sym same))
              | inr later ↦ inl (inr later)
            ]
        | inr (inl below) ↦
            elim (subst (λ o. In e (match_ordering o ((k, v) ∷ d ∷ es) ((d.0, v) ∷ es)
            (d ∷ insert_entry nat_cmp es k v))) (cmp_less k d.0 below) i) as (λ i. In e (d ∷ es) ⊎ (e ≡ (k, v))) [
              | inl here ↦ inr here
              | inr later ↦ inl later
            ]
        | inr (inr above) ↦
            elim (subst (λ o. In e (match_ordering o ((k, v) ∷ d ∷ es) ((d.0, v) ∷ es)
            (d ∷ insert_entry nat_cmp es k v))) (cmp_greater k d.0 above) i) as (λ i. In e (d ∷ es) ⊎ (e ≡ (k, v))) [
              | inl here ↦ inl (inl here)
              | inr later ↦ elim (inserted-new k v e es later) as (λ i. In e (d ∷ es) ⊎ (e ≡ (k, v))) [ inl old ↦ inl (inr old) | inr new ↦ inr new ]
            ]
      ]

  pub inserted-old : (k : ℕ) (v : X) (e : ℕ × X) (es : List (ℕ × X)) → In e es → In e (insert_entry nat_cmp es k v) ⊎ (e.0 ≡ k)
  inserted-old k v e [] i = absurd i
  inserted-old k v e (d ∷ es) i =
      elim (nat_cmp k d.0) as (λ o. nat_cmp k d.0 ≡ o
      → In e (match_ordering o ((k, v) ∷ d ∷ es) ((d.0, v) ∷ es) (d ∷ insert_entry nat_cmp es k v)) ⊎ (e.0 ≡ k)) [
        | Less ↦ λ o. inl (inr i)
        | Equal ↦ λ o. elim i as (λ i. In e ((d.0, v) ∷ es) ⊎ (e.0 ≡ k)) [
          | inl here ↦ inr (ap (λ (p : ℕ × X). p.0) here ∙ sym (same_number k d.0 o))
          | inr later ↦ inl (inr later)
        ]
        | Greater ↦ λ o. elim i as (λ i. In e (d ∷ insert_entry nat_cmp es k v) ⊎ (e.0 ≡ k)) [
          | inl here ↦ inl (inl here)
          | inr later ↦ elim (inserted-old k v e es later) as (λ i. In e (d ∷ insert_entry nat_cmp es k v)
              ⊎ (e.0 ≡ k)) [ inl still ↦ inl (inr still) | inr same ↦ inr same ]
        ]
      ] refl

  -- An entry is taken out

  pub without-lacks : (k : ℕ) (v : X) (es : List (ℕ × X)) → In (k, v) (without k es) → ⊥
  without-lacks k v [] i = i
  without-lacks k v (d ∷ es) i =
      elim (k == d.0) as (λ b. k == d.0 ≡ b → In (k, v) (cond (not b) (d ∷ without k es) (without k es)) → ⊥) [
        | true ↦ λ same i. without-lacks k v es i
        | false ↦ λ apart i. elim i as (λ i. ⊥) [
          | inl here ↦ both_ways (k == d.0) apart (eq-eqb k d.0 (ap (λ (e : ℕ × X). e.0) here))
          | inr later ↦ without-lacks k v es later
        ]
      ] refl i

  pub without-others : (k : ℕ) (e : ℕ × X) (es : List (ℕ × X)) → In e es → In e (without k es) ⊎ (e.0 ≡ k)
  without-others k e [] i = absurd i
  without-others k e (d ∷ es) i =
      elim (cases_eq k d.0) [
        | inl same ↦
            elim i as (λ i. In e (without k (d ∷ es)) ⊎ (e.0 ≡ k)) [
              | inl here ↦ inr (ap (λ (p : ℕ × X). p.0) here ∙ sym same)
              | inr later ↦ elim (without-others k e es later) as (λ i. In e (without k (d ∷ es)) ⊎ (e.0 ≡ k)) [
                | inl still ↦ inl (subst (In e) (sym (cond-false (not (k == d.0)) (d ∷ without k es) (without k es) (ap not (eq-eqb k d.0 same)))) still)
                | inr same ↦ inr same
              ]
            ]
        | inr apart ↦
            let kept : without k (d ∷ es) ≡ d ∷ without k es = cond-true (not (k == d.0)) (d ∷ without k es) (without k es) (ap not (ne_eqb k d.0 apart)) in
            elim i as (λ i. In e (without k (d ∷ es)) ⊎ (e.0 ≡ k)) [
              | inl here ↦ inl (subst (In e) (sym kept) (inl here))
              | inr later ↦ elim (without-others k e es later) as (λ i. In e (without k (d ∷ es)) ⊎ (e.0 ≡ k)) [
                | inl still ↦ inl (subst (In e) (sym kept) (inr still))
                | inr same ↦ inr same
              ]
            ]
      ]

  -- the one entry at a key
  pub value-is : (k lo hi : ℕ) (v : X) (e : ℕ × X) (es : List (ℕ × X)) → Rising lo hi es → value_at k es ≡ Some v → In e es → e.0 ≡ k → e ≡ (k, v)
  value-is k lo hi v e es r there i same =
      let both : Some e.1 ≡ Some v = sym (value_at-In lo hi es e r i) ∙ ap (λ n. value_at n es) same ∙ there in
      let value : e.1 ≡ v = cc in
      ap₂ (λ a b. (a, b)) same value

  pub value-here : (k lo hi : ℕ) (e : ℕ × X) (es : List (ℕ × X)) → Rising lo hi es → In e es → e.0 ≡ k → value_at k es ≡ Some e.1
  value-here k lo hi e es r i same = ap (λ n. value_at n es) (sym same) ∙ value_at-In lo hi es e r i
