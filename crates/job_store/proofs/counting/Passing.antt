-- How many keys pass a test, after one is put or taken out.
use Rattle.std.proofs.Common.{◌≡◌, suc, ◌+◌, ◌≤◌, Bool, true, false, cond, List, [], ◌∷◌, length, map, arith, refl}
use Rattle.std.proofs.Common.{sym, ap, ◌∙◌, Ordering, Less, Equal, Greater, ◌||◌, ◌&&◌}
use Rattle.std.proofs.lemmas.List.Sums.{length-filter, count_by-le-length}
use Rattle.std.specs.BTreeSet.{insert_key}
use Rattle.std.specs.Bool.{OnFalse}
use Rattle.std.specs.List.{filter, list_any}
use Rattle.std.specs.Ordering.{match_ordering}
use Rattle.std.specs.Set.{remove_key}

pub length-filter-map : {A B : Type 0} (f : A → B) (test : B → Bool) (xs : List A) → length (filter test (map f xs)) ≡ length (filter (λ x. test (f x)) xs)
length-filter-map f test [] = refl
length-filter-map f test (x ∷ xs) =
    elim (test (f x)) as (λ b. length (cond b (f x ∷ filter test (map f xs)) (filter test (map f xs)))
    ≡ length (cond b (x ∷ filter (λ x. test (f x)) xs) (filter (λ x. test (f x)) xs))) [
      | true ↦ ap suc (length-filter-map f test xs)
      | false ↦ length-filter-map f test xs
    ]

module _ {K : Type 0} (test : K → Bool) where
  pub passes-le : (ks : List K) → length (filter test ks) ≤ length ks
  passes-le ks = omega (arith, length-filter test ks, count_by-le-length test ks)

  -- a key that is new
  pub put-passes : (cmp : K → K → Ordering) (k : K) (ks : List K) → length (insert_key cmp ks k) ≡ length ks + 1
      → length (filter test (insert_key cmp ks k)) ≡ length (filter test ks) + cond (test k) 1 0
  put-passes cmp k [] new =
      elim (test k) as (λ b. length (cond b (k ∷ []) []) ≡ 0 + cond b 1 0) [ true ↦ refl | false ↦ refl ]
  put-passes cmp k (x ∷ xs) new =
      elim (cmp k x) as (λ o. length (match_ordering o (k ∷ x ∷ xs) (x ∷ xs) (x ∷ insert_key cmp xs k)) ≡ length (x ∷ xs) + 1
      → length (filter test (match_ordering o (k ∷ x ∷ xs) (x ∷ xs) (x ∷ insert_key cmp xs k)))
      ≡ length (filter test (x ∷ xs)) + cond (test k) 1 0) [
        | Less ↦ λ new. elim (test k) as (λ b. length (cond b (k ∷ filter test (x ∷ xs)) (filter test (x ∷ xs)))
            ≡ length (filter test (x ∷ xs)) + cond b 1 0) [ true ↦ omega arith | false ↦ omega arith ]
        | Equal ↦ λ new. absurd (omega (arith, new))
        | Greater ↦ λ new.
            let later = put-passes cmp k xs (omega (arith, new)) in
            elim (test x) as (λ b. length (cond b (x ∷ filter test (insert_key cmp xs k)) (filter test (insert_key cmp xs k)))
            ≡ length (cond b (x ∷ filter test xs) (filter test xs)) + cond (test k) 1 0) [ true ↦ omega (arith, later) | false ↦ later ]
      ] new

  -- a key that was there
  pub take-passes : (at : K → Bool) (b : Bool) → ((x : K) → at x ≡ true → test x ≡ b) → (ks : List K) → list_any at ks ≡ true
      → length (filter test (remove_key at ks)) + cond b 1 0 ≡ length (filter test ks)
  take-passes at b alike [] there = let f : false ≡ true = there in cc
  take-passes at b alike (x ∷ xs) there =
      elim (at x) as (λ a. at x ≡ a → list_any at (x ∷ xs) ≡ true
      → length (filter test (cond a xs (x ∷ remove_key at xs))) + cond b 1 0 ≡ length (filter test (x ∷ xs))) [
        | true ↦ λ a there.
            ap (λ t. length (filter test xs) + cond t 1 0) (sym (alike x a)) ∙
            elim (test x) as (λ t. length (filter test xs) + cond t 1 0 ≡ length (cond t (x ∷ filter test xs) (filter test xs))) [
              | true ↦ omega arith
              | false ↦ omega arith
            ]
        | false ↦ λ a there.
            let later = take-passes at b alike xs (sym (or-false (at x) (list_any at xs) a) ∙ there) in
            elim (test x) as (λ t. length (cond t (x ∷ filter test (remove_key at xs)) (filter test (remove_key at xs))) + cond b 1 0
            ≡ length (cond t (x ∷ filter test xs) (filter test xs))) [ true ↦ omega (arith, later) | false ↦ later ]
      ] refl there
    where
      or-false : (a b : Bool) → a ≡ false → (a || b) ≡ b
      or-false true b e = cc
      or-false false b e = refl

  -- what is counted, where a key was put, unless it was there
  pub put-counts : (cmp : K → K → Ordering) (k : K) (old new : List K) (added : Bool) → new ≡ insert_key cmp old k
      → length new ≡ length old + cond added 1 0 → OnFalse added (new ≡ old)
      → length (filter test new) ≡ length (filter test old) + cond (added && test k) 1 0
  put-counts cmp k old new true is len same =
      ap (λ ks. length (filter test ks)) is ∙ put-passes cmp k old (ap length (sym is) ∙ len)
  put-counts cmp k old new false is len same = omega (arith, ap (λ ks. length (filter test ks)) same)

  -- and where one was taken out, if it was there
  pub take-counts : (at : K → Bool) (k : K) (old new : List K) (was : Bool) → ((x : K) → at x ≡ true → test x ≡ test k)
      → new ≡ remove_key at old → was ≡ list_any at old → OnFalse was (new ≡ old)
      → length (filter test new) + cond (was && test k) 1 0 ≡ length (filter test old)
  take-counts at k old new true alike is there same =
      ap (λ ks. length (filter test ks) + cond (test k) 1 0) is ∙ take-passes at (test k) alike old (sym there)
  take-counts at k old new false alike is there same = omega (arith, ap (λ ks. length (filter test ks)) same)
