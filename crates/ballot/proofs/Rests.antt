-- Maps by slot from a base on: what they answer, their entries, and what is put or taken away.
use Rattle.std.proofs.Common.{◌≤◌, ◌≡◌, ℕ, Bool, true, false, cond, List, [], ◌∷◌, filter, Some, None, Option, Equal, refl, sym, ap, ◌∙◌, arith, true≢false}
use Rattle.std.specs.Prelude.{nat_le, T, option_map}
use Rattle.std.specs.FinMap.{empty, get, insert, remove, entries, find, is_sorted, from_sorted, get-empty, get-insert}
use Rattle.std.specs.FinMap.{get-remove, get-retain_keys, get-from_sorted, get-entries}
use Rattle.std.specs.FinMap.{entries-from_sorted, entries_sorted, nat_cmp-IsAntisymmetric}
use Rattle.std.specs.FinMap.Entries.{is_sorted-where_key, find-where_key}
use Rattle.std.specs.Ordering.{nat_cmp, eq_by_cmp}
use Rattle.std.specs.Cmp.{nat_cmp_total}
use Rattle.std.specs.List.{AllByRecursion}
use Rattle.std.specs.BTreeMap.Range.{IsLeBy}
use Rattle.std.specs.Map.{keys_of}
use Rattle.std.proofs.lemmas.Bool.Decides.{nat_tests}
use Rattle.ballot.specs.Slots.{Slots, each_value}
use Rattle.ballot.specs.Rests.{kept_from}
use Rattle.ballot.proofs.SlotMaps.{same_key, same_slots, get_each}

pub lt_true : (a b : ℕ) → a ≤ b → nat_le a b ≡ true
lt_true a b h = grind (arith, nat_tests)

same_test : (p : ℕ → Bool) (q x : ℕ) → nat_cmp q x ≡ Equal → p x ≡ p q
same_test p q x e = ap p (sym (nat_cmp-IsAntisymmetric q x e))

module _ {X : Type 0} where
  -- a slot below the base has no value
  pub get_above : (base : ℕ) (m : Slots X) (q : ℕ) → get (kept_from base m) q ≡ cond (nat_le base q) (get m q) None
  get_above base m q = get-retain_keys m (λ s. nat_le base s) q (same_test (nat_le base) q)

  -- a value from the base on is put
  put_cases : (base q s : ℕ) (v : X) (o : Option X) → nat_le base s ≡ true → (tied low : Bool)
      → eq_by_cmp nat_cmp q s ≡ tied → nat_le base q ≡ low
      → cond low (cond tied (Some v) o) None ≡ cond tied (Some v) (cond low o None)
  put_cases base q s v o h true true e f = refl
  put_cases base q s v o h true false e f = absurd (true≢false (sym (ap (nat_le base) (same_key s q e) ∙ h) ∙ f))
  put_cases base q s v o h false low e f = refl

  pub above_insert : (base : ℕ) (m : Slots X) (s : ℕ) (v : X) → base ≤ s → kept_from base (insert m s v) ≡ insert (kept_from base m) s v
  above_insert base m s v h = same_slots _ _ (λ q.
      get_above base (insert m s v) q
      ∙ ap (λ o. cond (nat_le base q) o None) (get-insert nat_cmp_total m s v q)
      ∙ put_cases base q s v (get m q) (lt_true base s h) (eq_by_cmp nat_cmp q s) (nat_le base q) refl refl
      ∙ ap (cond (eq_by_cmp nat_cmp q s) (Some v)) (sym (get_above base m q))
      ∙ sym (get-insert nat_cmp_total (kept_from base m) s v q))

  out_cases : (tied low : Bool) (o : Option X) → cond low (cond tied None o) None ≡ cond tied None (cond low o None)
  out_cases true true o = refl
  out_cases true false o = refl
  out_cases false low o = refl

  pub above_remove : (base : ℕ) (m : Slots X) (s : ℕ) → kept_from base (remove m s) ≡ remove (kept_from base m) s
  above_remove base m s = same_slots _ _ (λ q.
      get_above base (remove m s) q
      ∙ ap (λ o. cond (nat_le base q) o None) (get-remove nat_cmp_total m s q)
      ∙ out_cases (eq_by_cmp nat_cmp q s) (nat_le base q) (get m q)
      ∙ ap (cond (eq_by_cmp nat_cmp q s) None) (sym (get_above base m q))
      ∙ sym (get-remove nat_cmp_total (kept_from base m) s q))

  nowhere : (b : Bool) → cond {A = Option X} b None None ≡ None
  nowhere true = refl
  nowhere false = refl

  pub above_empty : (base : ℕ) → kept_from base (empty {X = X} {R = nat_cmp}) ≡ empty
  above_empty base = same_slots _ _
      (λ q. get_above base empty q ∙ ap (λ o. cond (nat_le base q) o None) (get-empty nat_cmp q) ∙ nowhere
      (nat_le base q) ∙ sym (get-empty nat_cmp q))

  -- what it answers at a slot from the base on, and below
  pub get_high : (base : ℕ) (m : Slots X) (q : ℕ) → base ≤ q → get (kept_from base m) q ≡ get m q
  get_high base m q h = get_above base m q ∙ ap (λ b. cond b (get m q) None) (lt_true base q h)

  -- its entries
  pub find_filter : (p : ℕ → Bool) (q : ℕ) (es : List (ℕ × X)) → find nat_cmp q (filter (λ e. p e.0) es) ≡ cond (p q) (find nat_cmp q es) None
  find_filter p q es = find-where_key nat_cmp p q (same_test p q) es

  pub kept_sorted : (base : ℕ) (es : List (ℕ × X)) → T (is_sorted nat_cmp es) → T (is_sorted nat_cmp (filter (λ e. nat_le base e.0) es))
  kept_sorted base es h = is_sorted-where_key nat_cmp (λ s. nat_le base s) es h

  from_kept : (base : ℕ) (m : Slots X) → from_sorted {R = nat_cmp} (filter (λ e. nat_le base e.0) (entries m)) ≡ kept_from base m
  from_kept base m = same_slots _ _ (λ q.
      get-from_sorted nat_cmp (filter (λ e. nat_le base e.0) (entries m)) q (kept_sorted base (entries m) (entries_sorted m))
      ∙ find_filter (λ s. nat_le base s) q (entries m)
      ∙ ap (λ o. cond (nat_le base q) o None) (sym (get-entries m q))
      ∙ sym (get_above base m q))

  pub entries_above : (base : ℕ) (m : Slots X) → entries (kept_from base m) ≡ filter (λ e. nat_le base e.0) (entries m)
  entries_above base m = ap entries (sym (from_kept base m)) ∙ entries-from_sorted nat_cmp _ (kept_sorted base (entries m) (entries_sorted m))

  -- a tree from which the entries of other slots were taken
  pub kept_view : (base : ℕ) (es fs : List (ℕ × X)) → T (is_sorted nat_cmp es) → fs ≡ filter (λ e. nat_le base e.0) es
      → from_sorted {R = nat_cmp} fs ≡ kept_from base (from_sorted es)
  kept_view base es fs sorted is =
      ap (λ xs. from_sorted {R = nat_cmp} xs)
      (is ∙ ap (λ xs. filter (λ e. nat_le base e.0) xs) (sym (entries-from_sorted nat_cmp es sorted)))
      ∙ from_kept base (from_sorted es)

  -- where the first slot is kept, all are
  pub all_kept : (base k : ℕ) (es : List (ℕ × X)) → base ≤ k → AllByRecursion (IsLeBy nat_cmp k) (keys_of es) → filter (λ e. nat_le base e.0) es ≡ es
  all_kept base k [] h all = refl
  all_kept base k (e ∷ es) h all =
      let here : nat_le base e.0 ≡ true = grind (arith, nat_tests, all.0) in
      ap (λ b. cond b (e ∷ filter (λ e. nat_le base e.0) es) (filter (λ e. nat_le base e.0) es)) here ∙ ap (λ xs. e ∷ xs) (all_kept base k es h all.1)

mapped_cond : {X Y : Type 0} (f : X → Y) (b : Bool) (o : Option X) → cond b (option_map f o) None ≡ option_map f (cond b o None)
mapped_cond f true o = refl
mapped_cond f false o = refl

pub above_each : {X Y : Type 0} (f : ℕ → X → Y) (base : ℕ) (m : Slots X) → kept_from base (each_value f m) ≡ each_value f (kept_from base m)
above_each f base m = same_slots _ _ (λ q.
    get_above base (each_value f m) q
    ∙ ap (λ o. cond (nat_le base q) o None) (get_each f m q)
    ∙ mapped_cond (f q) (nat_le base q) (get m q)
    ∙ ap (option_map (f q)) (sym (get_above base m q))
    ∙ sym (get_each f (kept_from base m) q))
