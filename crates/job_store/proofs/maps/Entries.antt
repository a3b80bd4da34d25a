-- Lists of entries, where the keys rise: the words of `BTreeMap`'s contracts in those of the definitions.
use Rattle.std.proofs.Common.{◌≡◌, ℕ, suc, ◌<◌, ◌≤◌, not, inl, inr, List, [], ◌∷◌, ◌++◌, Some, None, ◌==◌, nat_cmp}
use Rattle.std.proofs.Common.{refl, sym, ap, ap₂, subst, ◌∙◌, arith, eq-eqb, ne_eqb, Less, Equal, Greater}
use Rattle.std.proofs.lemmas.Bool.{cases_eq, cases_order, cond-true, cond-false}
use Rattle.std.proofs.lemmas.List.{append_assoc}
use Rattle.std.specs.Ordering.{match_ordering}
use Rattle.std.specs.Map.{remove_entry, set_value}
use Rattle.std.specs.BTreeMap.{is_at, insert_entry}
use Rattle.job_store.specs.Entries.{Rising, value_at, altered, without}
use Rattle.job_store.specs.EntryLaws.{cmp_less, cmp_equal, cmp_greater, at_same, at_other, value_at-here, value_at-next}
use Rattle.job_store.specs.EntryLaws.{altered-none, without-absent, Rising-end, Rising-insert}

pub same_number : (a b : ℕ) → nat_cmp a b ≡ Equal → a ≡ b
same_number a b h =
    elim (cases_order a b) [
      | inl same ↦ same
      | inr (inl below) ↦ let e : Less ≡ Equal = sym (cmp_less a b below) ∙ h in cc
      | inr (inr above) ↦ let e : Greater ≡ Equal = sym (cmp_greater a b above) ∙ h in cc
    ]

module _ {X : Type 0} where
  -- What is found at a key below all others
  value_at-below-all : (k lo hi : ℕ) (es : List (ℕ × X)) → k < lo → Rising lo hi es → value_at k es ≡ None
  value_at-below-all k lo hi [] h r = refl
  value_at-below-all k lo hi (e ∷ es) h r =
      value_at-next k e es (λ same. omega (arith, r.0)) ∙ value_at-below-all k (suc e.0) hi es (omega (arith, r.0)) r.1

  -- What `remove` leaves
  pub remove_entry-without : (k lo hi : ℕ) (es : List (ℕ × X)) → Rising lo hi es → remove_entry (is_at (nat_cmp k)) es ≡ without k es
  remove_entry-without k lo hi [] r = refl
  remove_entry-without k lo hi (e ∷ es) r =
      elim (cases_eq k e.0) [
        | inl same ↦
            cond-true (is_at (nat_cmp k) e.0) es (e ∷ remove_entry (is_at (nat_cmp k)) es) (at_same k e.0 same) ∙
            sym (without-absent k es (value_at-below-all k (suc e.0) hi es (omega (arith, same)) r.1)) ∙
            sym (cond-false (not (k == e.0)) (e ∷ without k es) (without k es) (ap not (eq-eqb k e.0 same)))
        | inr apart ↦
            cond-false (is_at (nat_cmp k) e.0) es (e ∷ remove_entry (is_at (nat_cmp k)) es) (at_other k e.0 apart) ∙
            ap (λ zs. e ∷ zs) (remove_entry-without k (suc e.0) hi es r.1) ∙
            sym (cond-true (not (k == e.0)) (e ∷ without k es) (without k es) (ap not (ne_eqb k e.0 apart)))
      ]

  -- What `insert` leaves at a key above all
  insert_entry-push : (lo hi : ℕ) (v : X) (es : List (ℕ × X)) → Rising lo hi es → insert_entry nat_cmp es hi v ≡ es ++ (hi, v) ∷ []
  insert_entry-push lo hi v [] r = refl
  insert_entry-push lo hi v (e ∷ es) r =
      ap (λ o. match_ordering o ((hi, v) ∷ e ∷ es) ((e.0, v) ∷ es) (e ∷ insert_entry nat_cmp es hi v)) (cmp_greater hi e.0 (Rising-end (suc e.0) hi es r.1)) ∙
      ap (λ zs. e ∷ zs) (insert_entry-push (suc e.0) hi v es r.1)

  -- What a write through `get_mut` leaves
  pub set_value-altered : (k lo hi : ℕ) (f : X → X) (v w : X) (es : List (ℕ × X)) → Rising lo hi es
      → value_at k es ≡ Some v → w ≡ f v → set_value (is_at (nat_cmp k)) es w ≡ altered k f es
  set_value-altered k lo hi f v w [] r e same = cc
  set_value-altered k lo hi f v w (d ∷ es) r e new =
      elim (cases_eq k d.0) [
        | inl same ↦
            let here : Some d.1 ≡ Some v = sym (value_at-here k d es same) ∙ e in
            let it : d.1 ≡ v = cc in
            cond-true (is_at (nat_cmp k) d.0) ((d.0, w) ∷ es) (d ∷ set_value (is_at (nat_cmp k)) es w) (at_same k d.0 same) ∙
            ap₂ (λ u zs. (d.0, u) ∷ zs) (new ∙ ap f (sym it) ∙ sym
            (cond-true (k == d.0) (f d.1) d.1 (eq-eqb k d.0 same)))
            (sym (altered-none k (suc d.0) hi f es (omega (arith, same)) r.1))
        | inr apart ↦
            cond-false (is_at (nat_cmp k) d.0) ((d.0, w) ∷ es) (d ∷ set_value (is_at (nat_cmp k)) es w) (at_other k d.0 apart) ∙
            ap₂ (λ u zs. (d.0, u) ∷ zs) (sym (cond-false (k == d.0) (f d.1) d.1 (ne_eqb k d.0 apart)))
            (set_value-altered k (suc d.0) hi f v w es r.1 (sym (value_at-next k d es apart) ∙ e) new)
      ]

  -- What a write of the same value leaves
  pub set_value-same : (k lo hi : ℕ) (v w : X) (es : List (ℕ × X)) → Rising lo hi es → value_at k es ≡ Some v → w ≡ v → set_value (is_at (nat_cmp k)) es w ≡ es
  set_value-same k lo hi v w [] r e same = refl
  set_value-same k lo hi v w (d ∷ es) r e new =
      elim (cases_eq k d.0) [
        | inl same ↦
            let here : Some d.1 ≡ Some v = sym (value_at-here k d es same) ∙ e in
            let it : d.1 ≡ v = cc in
            cond-true (is_at (nat_cmp k) d.0) ((d.0, w) ∷ es) (d ∷ set_value (is_at (nat_cmp k)) es w) (at_same k d.0 same) ∙
            ap (λ u. (d.0, u) ∷ es) (new ∙ sym it)
        | inr apart ↦
            cond-false (is_at (nat_cmp k) d.0) ((d.0, w) ∷ es) (d ∷ set_value (is_at (nat_cmp k)) es w) (at_other k d.0 apart) ∙
            ap (λ zs. d ∷ zs) (set_value-same k (suc d.0) hi v w es r.1 (sym (value_at-next k d es apart) ∙ e) new)
      ]

  -- What `insert` leaves at a key that is there
  pub insert_entry-altered : (k lo hi : ℕ) (f : X → X) (v : X) (es : List (ℕ × X)) → Rising lo hi es
      → value_at k es ≡ Some v → insert_entry nat_cmp es k (f v) ≡ altered k f es
  insert_entry-altered k lo hi f v [] r e = cc
  insert_entry-altered k lo hi f v (d ∷ es) r e =
      elim (cases_order k d.0) [
        | inl same ↦
            let here : Some d.1 ≡ Some v = sym (value_at-here k d es same) ∙ e in
            let it : d.1 ≡ v = cc in
            ap (λ o. match_ordering o ((k, f v) ∷ d ∷ es) ((d.0, f v) ∷ es) (d ∷ insert_entry nat_cmp es k (f v))) (cmp_equal k d.0 same) ∙
            ap₂ (λ u zs. (d.0, u) ∷ zs) (ap f (sym it) ∙ sym (cond-true (k == d.0) (f d.1) d.1 (eq-eqb k d.0 same)))
            (sym (altered-none k (suc d.0) hi f es (omega (arith, same)) r.1))
        | inr (inl below) ↦
            let none = value_at-below-all k (suc d.0) hi es (omega arith) r.1 in
            let there : Some v ≡ None = sym e ∙ value_at-next k d es (λ same. omega arith) ∙ none in cc
        | inr (inr above) ↦
            ap (λ o. match_ordering o ((k, f v) ∷ d ∷ es) ((d.0, f v) ∷ es) (d ∷ insert_entry nat_cmp es k (f v))) (cmp_greater k d.0 above) ∙
            ap₂ (λ u zs. (d.0, u) ∷ zs) (sym (cond-false (k == d.0) (f d.1) d.1 (ne_eqb k d.0 (λ same. omega arith))))
            (insert_entry-altered k (suc d.0) hi f v es r.1 (sym (value_at-next k d es (λ same. omega arith)) ∙ e))
      ]

  -- Entries that are put one after another, in their order

  Rising-front : (lo hi : ℕ) (es : List (ℕ × X)) (e : ℕ × X) (ds : List (ℕ × X)) → Rising lo hi (es ++ e ∷ ds) → Rising lo e.0 es
  Rising-front lo hi [] e ds r = r.0
  Rising-front lo hi (d ∷ es) e ds r = (r.0, Rising-front (suc d.0) hi es e ds r.1)

  pub insert_entry-next : (lo hi : ℕ) (es new : List (ℕ × X)) (e : ℕ × X) (ds all : List (ℕ × X)) → es ++ (e ∷ ds) ≡ all
      → Rising lo hi all → new ≡ insert_entry nat_cmp es e.0 e.1 → new ++ ds ≡ all
  insert_entry-next lo hi es new e ds all h r n =
      ap (λ zs. zs ++ ds) (n ∙ insert_entry-push lo e.0 e.1 es (Rising-front lo hi es e ds (subst (λ zs. Rising lo hi zs) (sym h) r))) ∙
      append_assoc es (e ∷ []) ds ∙ h

  -- The same keys

  pub Rising-same : (lo hi : ℕ) (new es : List (ℕ × X)) → new ≡ es → Rising lo hi es → Rising lo hi new
  Rising-same lo hi new es e r = subst (λ zs. Rising lo hi zs) (sym e) r

  pub inserted-rises : (k lo hi : ℕ) (v : X) (new es : List (ℕ × X)) → lo ≤ k → k < hi → Rising lo hi es → new ≡ insert_entry nat_cmp es k v → Rising lo hi new
  inserted-rises k lo hi v new es l h r e = Rising-same lo hi new _ e (Rising-insert k lo hi v es l h r)
