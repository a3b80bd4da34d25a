-- Lists of entries: keys that rise, and what is found at a key after a change. These laws stand in `specs/` because those of
-- who waits, in crates above, cite them.
use Rattle.std.proofs.Common.{◌≡◌, ℕ, suc, ◌<◌, ◌≤◌, true, false, cond, not, inl, inr, List, [], ◌∷◌, Some, None}
use Rattle.std.proofs.Common.{option_map, is_some, ◌==◌, nat_lt, nat_cmp, refl, sym, ap, ap₂, subst, ◌∙◌, arith, eq-eqb}
use Rattle.std.proofs.Common.{ne_eqb, le-ltb, lt-ltb, Less, Equal, Greater}
use Rattle.std.proofs.lemmas.Bool.{cases_eq, cases_order, cond-true, cond-false}
use Rattle.std.specs.Ordering.{match_ordering}
use Rattle.std.specs.BTreeMap.{is_at}
use Rattle.object.specs.Lists.{In}
use Rattle.job_store.specs.Entries.{Rising, value_at, with_value, each_value, altered, without}

-- How keys are compared

pub cmp_less : (k q : ℕ) → k < q → nat_cmp k q ≡ Less
cmp_less k q h = rw (lt-ltb k q h) refl

pub cmp_equal : (k q : ℕ) → k ≡ q → nat_cmp k q ≡ Equal
cmp_equal k q e = rw (le-ltb k q (omega arith), eq-eqb k q e) refl

pub cmp_greater : (k q : ℕ) → q < k → nat_cmp k q ≡ Greater
cmp_greater k q h = rw (le-ltb k q (omega arith), ne_eqb k q (λ e. omega arith)) refl

pub at_same : (k q : ℕ) → k ≡ q → is_at (nat_cmp k) q ≡ true
at_same k q e = rw (le-ltb k q (omega arith), eq-eqb k q e) refl

pub at_other : (k q : ℕ) → (k ≡ q → ⊥) → is_at (nat_cmp k) q ≡ false
at_other k q apart = rw (ne_eqb k q apart) (elim (nat_lt k q) as (λ b. is_at (λ (r : ℕ). cond b Less Greater) q ≡ false) [ true ↦ refl | false ↦ refl ])

module _ {X : Type 0} where
  pub value_at-here : (k : ℕ) (e : ℕ × X) (es : List (ℕ × X)) → k ≡ e.0 → value_at k (e ∷ es) ≡ Some e.1
  value_at-here k e es same = cond-true _ (Some e.1) (value_at k es) (at_same k e.0 same)

  pub value_at-next : (k : ℕ) (e : ℕ × X) (es : List (ℕ × X)) → (k ≡ e.0 → ⊥) → value_at k (e ∷ es) ≡ value_at k es
  value_at-next k e es apart = cond-false _ (Some e.1) (value_at k es) (at_other k e.0 apart)

  -- What is found after a change

  pub value_at-each : (f : X → X) (k : ℕ) (es : List (ℕ × X)) → value_at k (each_value f es) ≡ option_map f (value_at k es)
  value_at-each f k [] = refl
  value_at-each f k (e ∷ es) =
      elim (cases_eq k e.0) [
        | inl same ↦ value_at-here k (e.0, f e.1) (each_value f es) same ∙ sym (ap (option_map f) (value_at-here k e es same))
        | inr apart ↦ value_at-next k (e.0, f e.1) (each_value f es) apart ∙ value_at-each f k es ∙ sym (ap (option_map f) (value_at-next k e es apart))
      ]

  pub value_at-altered : (k : ℕ) (f : X → X) (es : List (ℕ × X)) → value_at k (altered k f es) ≡ option_map f (value_at k es)
  value_at-altered k f [] = refl
  value_at-altered k f (e ∷ es) =
      elim (cases_eq k e.0) [
        | inl same ↦
            value_at-here k (e.0, cond (k == e.0) (f e.1) e.1) (altered k f es) same ∙
            ap Some (cond-true (k == e.0) (f e.1) e.1 (eq-eqb k e.0 same)) ∙
            sym (ap (option_map f) (value_at-here k e es same))
        | inr apart ↦ value_at-next k (e.0, cond (k == e.0) (f e.1) e.1)
            (altered k f es) apart ∙ value_at-altered k f es ∙ sym (ap (option_map f) (value_at-next k e es apart))
      ]

  pub value_at-altered_same : (k : ℕ) (f : X → X) (es : List (ℕ × X)) (v : X) → value_at k es ≡ Some v → value_at k (altered k f es) ≡ Some (f v)
  value_at-altered_same k f es v e = value_at-altered k f es ∙ ap (option_map f) e

  pub value_at-altered_other : (k q : ℕ) (f : X → X) (es : List (ℕ × X)) → (k ≡ q → ⊥) → value_at q (altered k f es) ≡ value_at q es
  value_at-altered_other k q f [] apart = refl
  value_at-altered_other k q f (e ∷ es) apart =
      elim (cases_eq q e.0) [
        | inl same ↦
            value_at-here q (e.0, cond (k == e.0) (f e.1) e.1) (altered k f es) same ∙
            ap Some (cond-false (k == e.0) (f e.1) e.1 (ne_eqb k e.0 (λ h. apart (h ∙ sym same)))) ∙
            sym (value_at-here q e es same)
        | inr other ↦ value_at-next q (e.0, cond (k == e.0) (f e.1) e.1)
            (altered k f es) other ∙ value_at-altered_other k q f es apart ∙ sym (value_at-next q e es other)
      ]

  pub value_at-without_other : (k q : ℕ) (es : List (ℕ × X)) → (k ≡ q → ⊥) → value_at q (without k es) ≡ value_at q es
  value_at-without_other k q [] apart = refl
  value_at-without_other k q (e ∷ es) apart =
      elim (cases_eq k e.0) [
        | inl same ↦ ap (value_at q) (cond-false (not (k == e.0)) (e ∷ without k es) (without k es)
            (ap not (eq-eqb k e.0 same))) ∙ value_at-without_other k q es apart ∙ sym
            (value_at-next q e es (λ h. apart (same ∙ sym h)))
        | inr other ↦ ap (value_at q) (cond-true (not (k == e.0)) (e ∷ without k es) (without k es)
            (ap not (ne_eqb k e.0 other))) ∙ ap (cond (is_at (nat_cmp q) e.0) (Some e.1))
            (value_at-without_other k q es apart)
      ]

  pub value_at-insert : (k : ℕ) (v : X) (es : List (ℕ × X)) → value_at k (with_value k v es) ≡ Some v
  value_at-insert k v [] = value_at-here k (k, v) [] refl
  value_at-insert k v (e ∷ es) =
      elim (cases_order k e.0) [
        | inl same ↦ rw (cmp_equal k e.0 same) (value_at-here k (e.0, v) es same)
        | inr (inl below) ↦ rw (cmp_less k e.0 below) (value_at-here k (k, v) (e ∷ es) refl)
        | inr (inr above) ↦ rw (cmp_greater k e.0 above) (value_at-next k e (with_value k v es) (λ same. omega arith) ∙ value_at-insert k v es)
      ]

  pub value_at-insert_other : (k q : ℕ) (v : X) (es : List (ℕ × X)) → (k ≡ q → ⊥) → value_at q (with_value k v es) ≡ value_at q es
  value_at-insert_other k q v [] apart = value_at-next q (k, v) [] (λ same. apart (sym same))
  value_at-insert_other k q v (e ∷ es) apart =
      elim (cases_order k e.0) [
        | inl same ↦
            rw (cmp_equal k e.0 same)
            (value_at-next q (e.0, v) es (λ h. apart (same ∙ sym h)) ∙ sym (value_at-next q e es (λ h. apart (same ∙ sym h))))
        | inr (inl below) ↦ rw (cmp_less k e.0 below) (value_at-next q (k, v) (e ∷ es) (λ same. apart (sym same)))
        | inr (inr above) ↦ rw (cmp_greater k e.0 above) (ap (cond (is_at (nat_cmp q) e.0) (Some e.1)) (value_at-insert_other k q v es apart))
      ]

  -- Keys that rise

  pub Rising-wider : (lo lo' hi hi' : ℕ) (es : List (ℕ × X)) → lo' ≤ lo → hi ≤ hi' → Rising lo hi es → Rising lo' hi' es
  Rising-wider lo lo' hi hi' [] l h r = omega (arith, r)
  Rising-wider lo lo' hi hi' (e ∷ es) l h r = (omega (arith, r.0), Rising-wider (suc e.0) (suc e.0) hi hi' es (omega arith) h r.1)

  pub Rising-end : (lo hi : ℕ) (es : List (ℕ × X)) → Rising lo hi es → lo ≤ hi
  Rising-end lo hi [] r = r
  Rising-end lo hi (e ∷ es) r = omega (arith, r.0, Rising-end (suc e.0) hi es r.1)

  pub Rising-each : (f : X → X) (lo hi : ℕ) (es : List (ℕ × X)) → Rising lo hi es → Rising lo hi (each_value f es)
  Rising-each f lo hi [] r = r
  Rising-each f lo hi (e ∷ es) r = (r.0, Rising-each f (suc e.0) hi es r.1)

  pub Rising-altered : (k : ℕ) (f : X → X) (lo hi : ℕ) (es : List (ℕ × X)) → Rising lo hi es → Rising lo hi (altered k f es)
  Rising-altered k f lo hi [] r = r
  Rising-altered k f lo hi (e ∷ es) r = (r.0, Rising-altered k f (suc e.0) hi es r.1)

  pub Rising-without : (k lo hi : ℕ) (es : List (ℕ × X)) → Rising lo hi es → Rising lo hi (without k es)
  Rising-without k lo hi [] r = r
  Rising-without k lo hi (e ∷ es) r =
      elim (k == e.0) as (λ b. Rising lo hi (cond (not b) (e ∷ without k es) (without k es))) [
        | true ↦ Rising-without k lo hi es (Rising-wider (suc e.0) lo hi hi es (omega (arith, r.0)) (omega arith) r.1)
        | false ↦ (r.0, Rising-without k (suc e.0) hi es r.1)
      ]

  pub Rising-insert : (k lo hi : ℕ) (v : X) (es : List (ℕ × X)) → lo ≤ k → k < hi → Rising lo hi es → Rising lo hi (with_value k v es)
  Rising-insert k lo hi v [] l h r = (l, h)
  Rising-insert k lo hi v (e ∷ es) l h r =
      elim (cases_order k e.0) [
        | inl same ↦ rw (cmp_equal k e.0 same) r
        | inr (inl below) ↦ rw (cmp_less k e.0 below) (l, (below, r.1))
        | inr (inr above) ↦ rw (cmp_greater k e.0 above) (r.0, Rising-insert k (suc e.0) hi v es above h r.1)
      ]

  -- What stands among the entries

  pub key_from : (lo hi : ℕ) (es : List (ℕ × X)) (e : ℕ × X) → Rising lo hi es → In e es → lo ≤ e.0
  key_from lo hi [] e r i = absurd i
  key_from lo hi (d ∷ es) e r (inl same) = omega (arith, ap (λ (p : ℕ × X). p.0) same, r.0)
  key_from lo hi (d ∷ es) e r (inr later) = omega (arith, key_from (suc d.0) hi es e r.1 later, r.0)

  -- each entry is the one that its key finds
  pub value_at-In : (lo hi : ℕ) (es : List (ℕ × X)) (e : ℕ × X) → Rising lo hi es → In e es → value_at e.0 es ≡ Some e.1
  value_at-In lo hi [] e r i = absurd i
  value_at-In lo hi (d ∷ es) e r (inl same) = value_at-here e.0 d es (ap (λ (p : ℕ × X). p.0) same) ∙ ap (λ (p : ℕ × X). Some p.1) (sym same)
  value_at-In lo hi (d ∷ es) e r (inr later) =
      value_at-next e.0 d es (λ h. omega (arith, key_from (suc d.0) hi es e r.1 later, h)) ∙ value_at-In (suc d.0) hi es e r.1 later

  pub value_at-below : (lo hi k : ℕ) (es : List (ℕ × X)) (v : X) → Rising lo hi es → value_at k es ≡ Some v → k < hi
  value_at-below lo hi k [] v r e = cc
  value_at-below lo hi k (d ∷ es) v r e =
      elim (cases_eq k d.0) [
        | inl same ↦ omega (arith, same, Rising-end (suc d.0) hi es r.1)
        | inr apart ↦ value_at-below (suc d.0) hi k es v r.1 (sym (value_at-next k d es apart) ∙ e)
      ]

  -- a value that is found stands in an entry
  pub value_at-found : (k : ℕ) (es : List (ℕ × X)) (v : X) → value_at k es ≡ Some v → (e : ℕ × X) × In e es × (e.0 ≡ k) × (e.1 ≡ v)
  value_at-found k [] v e = cc
  value_at-found k (d ∷ es) v e =
      elim (cases_eq k d.0) [
        | inl same ↦ let f : Some d.1 ≡ Some v = sym (value_at-here k d es same) ∙ e in (d, inl refl, sym same, cc)
        | inr apart ↦ let r = value_at-found k es v (sym (value_at-next k d es apart) ∙ e) in (r.0, inr r.1, r.2, r.3)
      ]

  pub in-found : (es : List (ℕ × X)) (e : ℕ × X) → In e es → is_some (value_at e.0 es) ≡ true
  in-found [] e i = absurd i
  in-found (d ∷ es) e i =
      elim (cases_eq e.0 d.0) [
        | inl same ↦ ap is_some (value_at-here e.0 d es same)
        | inr apart ↦ ap is_some (value_at-next e.0 d es apart) ∙
            elim i as (λ i. is_some (value_at e.0 es)
            ≡ true) [ inl same ↦ absurd (apart (ap (λ (p : ℕ × X). p.0) same)) | inr later ↦ in-found es e later ]
      ]

  -- What stands among changed entries

  pub altered-in : (k : ℕ) (f : X → X) (P : ℕ × X → Type 0) (es : List (ℕ × X))
      → ((d : ℕ × X) → In d es → P (d.0, cond (k == d.0) (f d.1) d.1)) → (e : ℕ × X) → In e (altered k f es) → P e
  altered-in k f P [] h e i = absurd i
  altered-in k f P (d ∷ es) h e (inl same) = subst P (sym same) (h d (inl refl))
  altered-in k f P (d ∷ es) h e (inr later) = altered-in k f P es (λ c i. h c (inr i)) e later

  pub without-in : (k : ℕ) (es : List (ℕ × X)) (e : ℕ × X) → In e (without k es) → In e es
  without-in k [] e i = i
  without-in k (d ∷ es) e i =
      elim (not (k == d.0)) as (λ b. In e (cond b (d ∷ without k es) (without k es)) → In e (d ∷ es)) [
        | true ↦ λ i. elim i as (λ i. In e (d ∷ es)) [ inl same ↦ inl same | inr later ↦ inr (without-in k es e later) ]
        | false ↦ λ i. inr (without-in k es e i)
      ] i

  pub insert-in : (P : ℕ × X → Type 0) (k : ℕ) (v : X) (es : List (ℕ × X)) → ((q : ℕ) → P (q, v))
      → ((d : ℕ × X) → In d es → P d) → (e : ℕ × X) → In e (with_value k v es) → P e
  insert-in P k v [] new old e (inl same) = subst P (sym same) (new k)
  insert-in P k v [] new old e (inr never) = absurd never
  insert-in P k v (d ∷ es) new old e i =
      elim (nat_cmp k d.0) as (λ o. In e (match_ordering o ((k, v) ∷ d ∷ es) ((d.0, v) ∷ es) (d ∷ with_value k v es)) → P e) [
        | Less ↦ λ i. elim i as (λ i. P e) [ inl same ↦ subst P (sym same) (new k) | inr later ↦ old e later ]
        | Equal ↦ λ i. elim i as (λ i. P e) [ inl same ↦ subst P (sym same) (new d.0) | inr later ↦ old e (inr later) ]
        | Greater ↦ λ i. elim i as (λ i. P e) [ inl same ↦ old e (inl same) | inr later ↦ insert-in P k v es new (λ c j. old c (inr j)) e later ]
      ] i

  -- What a change of one entry leaves alone

  pub altered-none : (k lo hi : ℕ) (f : X → X) (es : List (ℕ × X)) → k < lo → Rising lo hi es → altered k f es ≡ es
  altered-none k lo hi f [] h r = refl
  altered-none k lo hi f (e ∷ es) h r =
      ap₂ (λ v zs. (e.0, v) ∷ zs) (cond-false (k == e.0) (f e.1) e.1 (ne_eqb k e.0 (λ same. omega (arith, r.0))))
      (altered-none k (suc e.0) hi f es (omega (arith, r.0)) r.1)

  pub altered-absent : (k : ℕ) (f : X → X) (es : List (ℕ × X)) → value_at k es ≡ None → altered k f es ≡ es
  altered-absent k f [] e = refl
  altered-absent k f (d ∷ es) e =
      elim (cases_eq k d.0) [
        | inl same ↦ let here : Some d.1 ≡ None = sym (value_at-here k d es same) ∙ e in cc
        | inr apart ↦ ap₂ (λ u zs. (d.0, u) ∷ zs) (cond-false (k == d.0) (f d.1) d.1 (ne_eqb k d.0 apart))
            (altered-absent k f es (sym (value_at-next k d es apart) ∙ e))
      ]

  -- two changes that do the same to the value at k
  pub altered-alike : (k lo hi : ℕ) (f g : X → X) (es : List (ℕ × X)) (v : X) → Rising lo hi es → value_at k es ≡ Some v
      → f v ≡ g v → altered k f es ≡ altered k g es
  altered-alike k lo hi f g [] v r e same = refl
  altered-alike k lo hi f g (d ∷ es) v r e alike =
      elim (cases_eq k d.0) [
        | inl same ↦
            let here : Some d.1 ≡ Some v = sym (value_at-here k d es same) ∙ e in
            let it : d.1 ≡ v = cc in
            let below : k < suc d.0 = omega arith in
            ap₂ (λ u zs. (d.0, u) ∷ zs)
            (cond-true (k == d.0) (f d.1) d.1 (eq-eqb k d.0 same) ∙ ap f it ∙ alike ∙ ap g (sym it) ∙ sym
            (cond-true (k == d.0) (g d.1) d.1 (eq-eqb k d.0 same)))
            (altered-none k (suc d.0) hi f es below r.1 ∙ sym (altered-none k (suc d.0) hi g es below r.1))
        | inr apart ↦
            ap₂ (λ u zs. (d.0, u) ∷ zs)
            (cond-false (k == d.0) (f d.1) d.1 (ne_eqb k d.0 apart) ∙ sym (cond-false (k == d.0) (g d.1) d.1 (ne_eqb k d.0 apart)))
            (altered-alike k (suc d.0) hi f g es v r.1 (sym (value_at-next k d es apart) ∙ e) alike)
      ]

  -- a change that takes another back
  pub altered-back : (k lo hi : ℕ) (f g : X → X) (es : List (ℕ × X)) (v : X) → Rising lo hi es → value_at k es ≡ Some v
      → g (f v) ≡ v → altered k g (altered k f es) ≡ es
  altered-back k lo hi f g [] v r e back = refl
  altered-back k lo hi f g (d ∷ es) v r e back =
      elim (cases_eq k d.0) [
        | inl same ↦
            let here : Some d.1 ≡ Some v = sym (value_at-here k d es same) ∙ e in
            let it : d.1 ≡ v = cc in
            let below : k < suc d.0 = omega arith in
            ap₂ (λ u zs. (d.0, u) ∷ zs)
            (cond-true (k == d.0) (g (cond (k == d.0) (f d.1) d.1)) (cond (k == d.0) (f d.1) d.1) (eq-eqb k d.0 same) ∙
            ap g (cond-true (k == d.0) (f d.1) d.1 (eq-eqb k d.0 same) ∙ ap f it) ∙ back ∙ sym it)
            (ap (altered k g) (altered-none k (suc d.0) hi f es below r.1) ∙ altered-none k (suc d.0) hi g es below r.1)
        | inr apart ↦
            ap₂ (λ u zs. (d.0, u) ∷ zs)
            (cond-false (k == d.0) (g (cond (k == d.0) (f d.1) d.1)) (cond (k == d.0) (f d.1) d.1)
            (ne_eqb k d.0 apart) ∙ cond-false (k == d.0) (f d.1) d.1 (ne_eqb k d.0 apart))
            (altered-back k (suc d.0) hi f g es v r.1 (sym (value_at-next k d es apart) ∙ e) back)
      ]

  pub without-absent : (k : ℕ) (es : List (ℕ × X)) → value_at k es ≡ None → without k es ≡ es
  without-absent k [] e = refl
  without-absent k (d ∷ es) e =
      elim (cases_eq k d.0) [
        | inl same ↦ let here : Some d.1 ≡ None = sym (value_at-here k d es same) ∙ e in cc
        | inr apart ↦ cond-true (not (k == d.0)) (d ∷ without k es) (without k es) (ap not (ne_eqb k d.0 apart)) ∙ ap
            (λ zs. d ∷ zs) (without-absent k es (sym (value_at-next k d es apart) ∙ e))
      ]

  -- what is left where a new entry is taken out again
  pub without-insert : (k : ℕ) (v : X) (es : List (ℕ × X)) → value_at k es ≡ None → without k (with_value k v es) ≡ es
  without-insert k v [] none = cond-false (not (k == k)) _ [] (ap not (eq-eqb k k refl))
  without-insert k v (e ∷ es) none =
      elim (cases_order k e.0) [
        | inl same ↦ let here : Some e.1 ≡ None = sym (value_at-here k e es same) ∙ none in cc
        | inr (inl below) ↦ rw (cmp_less k e.0 below)
            (cond-false (not (k == k)) _ (without k (e ∷ es)) (ap not (eq-eqb k k refl)) ∙ without-absent k
            (e ∷ es) none)
        | inr (inr above) ↦
            rw (cmp_greater k e.0 above)
            (cond-true (not (k == e.0)) _ _ (ap not (ne_eqb k e.0 (λ same. omega arith))) ∙
            ap (λ zs. e ∷ zs) (without-insert k v es (sym (value_at-next k e es (λ same. omega arith)) ∙ none)))
      ]
