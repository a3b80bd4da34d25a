-- Places by numbers of any kind, seen as places by numbers alone.
use Rattle.std.proofs.Common.{◌≡◌, ℕ, true, false, cond, not, ◌&&◌, ◌∙◌, inl, inr, List, [], ◌∷◌, map, refl, sym, ap}
use Rattle.std.proofs.Common.{ap₂, subst, ◌||◌, Less, Equal, Greater, nat_cmp, Ordering}
use Rattle.std.proofs.lemmas.Bool.{both_ways}
use Rattle.std.proofs.lemmas.List.Elements.{All-head, All-tail}
use Rattle.std.proofs.lemmas.List.Kept.{IsStrictlySortedBy-filter}
use Rattle.std.specs.Ordering.{ordering_then, match_ordering, is_eq, is_le, is_lt}
use Rattle.std.specs.List.Sorted.{IsStrictlySortedBy}
use Rattle.std.specs.List.{All, AllByRecursion, filter, list_any}
use Rattle.std.specs.declared.ops.Bound.TheVariants.{Included, Excluded, Unbounded}
use Rattle.std.specs.BTreeMap.{is_at}
use Rattle.std.specs.BTreeMap.Range.{range_contains}
use Rattle.std.specs.BTreeSet.{insert_key}
use Rattle.std.specs.Set.{remove_key}
use Rattle.object.specs.Lists.{In}
use Rattle.job_store.specs.LookUps.{is_after}
use Rattle.job_store.specs.ShelfStates.{numbered_place, IsFrom}
use Rattle.job_store.proofs.shelving.Places.{shelf_cmp, at_place, from-le, lt-after}

module _ {N : Type 0} (cmp : N → N → Ordering) (value : N → ℕ) (law : (x y : N) → cmp x y ≡ nat_cmp (value x) (value y)) where
  abbrev pub pair_cmp : N × ℕ → N × ℕ → Ordering
  pair_cmp p q = ordering_then (cmp p.0 q.0) (nat_cmp p.1 q.1)

  as_places : (p q : N × ℕ) → pair_cmp p q ≡ shelf_cmp (numbered_place value p) (numbered_place value q)
  as_places p q = ap (λ o. ordering_then o (nat_cmp p.1 q.1)) (law p.0 q.0)

  -- a place that is found is the one that was looked for
  pub at-same : (k x : N × ℕ) → is_at (pair_cmp k) x ≡ true → numbered_place value x ≡ numbered_place value k
  at-same k x t = sym (at_place (numbered_place value k) (numbered_place value x) (ap is_eq (sym (as_places k x)) ∙ t))

  pub put-of : (k : N × ℕ) (ks : List (N × ℕ))
      → map (numbered_place value) (insert_key pair_cmp ks k)
      ≡ insert_key shelf_cmp (map (numbered_place value) ks) (numbered_place value k)
  put-of k [] = refl
  put-of k (x ∷ xs) =
      subst (λ o. map (numbered_place value) (insert_key pair_cmp (x ∷ xs) k)
      ≡ match_ordering o (numbered_place value k ∷ map (numbered_place value) (x ∷ xs))
      (map (numbered_place value) (x ∷ xs))
      (numbered_place value x ∷ insert_key shelf_cmp (map (numbered_place value) xs) (numbered_place value k)))
      (as_places k x)
      (elim (pair_cmp k x) as (λ o. map (numbered_place value)
      (match_ordering o (k ∷ x ∷ xs) (x ∷ xs) (x ∷ insert_key pair_cmp xs k))
      ≡ match_ordering o (numbered_place value k ∷ map (numbered_place value) (x ∷ xs))
      (map (numbered_place value) (x ∷ xs))
      (numbered_place value x ∷ insert_key shelf_cmp (map (numbered_place value) xs) (numbered_place value k))) [
        | Less ↦ refl
        | Equal ↦ refl
        | Greater ↦ ap (λ zs. numbered_place value x ∷ zs) (put-of k xs)
      ])

  pub taken-of : (k : N × ℕ) (ks : List (N × ℕ))
      → map (numbered_place value) (remove_key (is_at (pair_cmp k)) ks)
      ≡ remove_key (is_at (shelf_cmp (numbered_place value k))) (map (numbered_place value) ks)
  taken-of k [] = refl
  taken-of k (x ∷ xs) =
      subst (λ o. map (numbered_place value) (remove_key (is_at (pair_cmp k)) (x ∷ xs))
      ≡ cond (is_eq o) (map (numbered_place value) xs)
      (numbered_place value x ∷ remove_key (is_at (shelf_cmp (numbered_place value k)))
      (map (numbered_place value) xs))) (as_places k x)
      (elim (is_eq (pair_cmp k x)) as (λ b. map (numbered_place value)
      (cond b xs (x ∷ remove_key (is_at (pair_cmp k)) xs))
      ≡ cond b (map (numbered_place value) xs)
      (numbered_place value x ∷ remove_key (is_at (shelf_cmp (numbered_place value k)))
      (map (numbered_place value) xs))) [
        | true ↦ refl
        | false ↦ ap (λ zs. numbered_place value x ∷ zs) (taken-of k xs)
      ])

  pub gone-of : (k : N × ℕ) (ks : List (N × ℕ))
      → list_any (is_at (shelf_cmp (numbered_place value k))) (map (numbered_place value) ks)
      ≡ list_any (is_at (pair_cmp k)) ks
  gone-of k [] = refl
  gone-of k (x ∷ xs) = ap₂ (λ a b. a || b) (ap is_eq (sym (as_places k x))) (gone-of k xs)

  -- none of the places comes after this one
  pub up-to-of : (last : N × ℕ) (p : ℕ × ℕ) (ks : List (N × ℕ)) → All (λ q. is_lt (pair_cmp last q) ≡ false) ks
      → In p (map (numbered_place value) ks) → is_lt (shelf_cmp (numbered_place value last) p) ≡ false
  up-to-of last p [] a i = absurd i
  up-to-of last p (x ∷ xs) a (inl here) =
      subst (λ q. is_lt (shelf_cmp (numbered_place value last) q) ≡ false) (sym here) (ap is_lt (sym (as_places last x)) ∙ All-head (λ q. is_lt (pair_cmp last q) ≡ false) x xs a)
  up-to-of last p (x ∷ xs) a (inr later) = up-to-of last p xs (All-tail (λ q. is_lt (pair_cmp last q) ≡ false) x xs a) later

  after-of : (x : N × ℕ) (xs : List (N × ℕ)) → AllByRecursion (λ y. pair_cmp x y ≡ Less) xs
      → AllByRecursion (λ y. shelf_cmp (numbered_place value x) y ≡ Less) (map (numbered_place value) xs)
  after-of x [] a = a
  after-of x (y ∷ ys) a = (sym (as_places x y) ∙ a.0, after-of x ys a.1)

  pub sorted-of : (ks : List (N × ℕ)) → IsStrictlySortedBy pair_cmp ks → IsStrictlySortedBy shelf_cmp (map (numbered_place value) ks)
  unfolding IsStrictlySortedBy
  sorted-of [] s = s
  sorted-of (x ∷ xs) s = (after-of x xs s.0, sorted-of xs s.1)

  -- the places from one on

  pub ranged-of : (from : N × ℕ) (p : ℕ × ℕ) (ks : List (N × ℕ)) → In p (map (numbered_place value) ks)
      → IsFrom (numbered_place value from) p
      → In p (map (numbered_place value) (filter (range_contains pair_cmp (Included from) Unbounded) ks))
  ranged-of from p [] i h = i
  ranged-of from p (x ∷ xs) i h =
      let rest = filter (range_contains pair_cmp (Included from) Unbounded) xs in
      elim (is_le (pair_cmp from x)) as (λ b. is_le (pair_cmp from x) ≡ b → In p (map (numbered_place value) (cond (b && not false) (x ∷ rest) rest))) [
        | true ↦ λ b. elim i as (λ i. In p
            (numbered_place value x ∷ map (numbered_place value) rest)) [
              | inl here ↦ inl here
              | inr later ↦ inr
                  (ranged-of from p xs later h)
            ]
        | false ↦ λ b. elim i as (λ i. In p (map (numbered_place value) rest)) [
          | inl here ↦ absurd (both_ways (is_le (pair_cmp from x)) b
              (ap is_le (as_places from x) ∙ from-le (numbered_place value from) (numbered_place value x)
              (subst (IsFrom (numbered_place value from)) here h)))
          | inr later ↦ ranged-of from p xs later h
        ]
      ] refl

  pub ranged-sorted : (from : N × ℕ) (ks : List (N × ℕ)) → IsStrictlySortedBy pair_cmp ks
      → IsStrictlySortedBy shelf_cmp
      (map (numbered_place value) (filter (range_contains pair_cmp (Included from) Unbounded) ks))
  ranged-sorted from ks s =
      let test = range_contains pair_cmp (Included from) Unbounded in
      sorted-of (filter test ks) (IsStrictlySortedBy-filter pair_cmp test ks s)

  -- the places after one

  after-is : (after x : N × ℕ) → range_contains pair_cmp (Excluded after) Unbounded x ≡ is_after (numbered_place value after) (numbered_place value x)
  after-is after x =
      elim (is_lt (pair_cmp after x)) as (λ b. (b && not false) ≡ b) [ true ↦ refl | false ↦ refl ] ∙
      ap is_lt (as_places after x) ∙
      lt-after (numbered_place value after) (numbered_place value x)

  pub after-kept : (after : N × ℕ) (p : ℕ × ℕ) (ks : List (N × ℕ)) → In p (map (numbered_place value) ks)
      → is_after (numbered_place value after) p ≡ true
      → In p (map (numbered_place value) (filter (range_contains pair_cmp (Excluded after) Unbounded) ks))
  after-kept after p [] i t = i
  after-kept after p (x ∷ xs) i t =
      let test = range_contains pair_cmp (Excluded after) Unbounded in
      let rest = filter test xs in
      elim (test x) as (λ b. test x ≡ b → In p (map (numbered_place value) (cond b (x ∷ rest) rest))) [
        | true ↦ λ b. elim i as (λ i. In p
            (numbered_place value x ∷ map (numbered_place value) rest)) [
              | inl here ↦ inl here
              | inr later ↦ inr
                  (after-kept after p xs later t)
            ]
        | false ↦ λ b. elim i as (λ i. In p (map (numbered_place value) rest)) [
          | inl here ↦ absurd (both_ways (is_after (numbered_place value after) p)
              (ap (is_after (numbered_place value after)) here ∙ sym (after-is after x) ∙ b) t)
          | inr later ↦ after-kept after p xs later t
        ]
      ] refl

  pub after-only : (after : N × ℕ) (p : ℕ × ℕ) (ks : List (N × ℕ))
      → In p (map (numbered_place value) (filter (range_contains pair_cmp (Excluded after) Unbounded) ks))
      → is_after (numbered_place value after) p ≡ true
  after-only after p [] i = absurd i
  after-only after p (x ∷ xs) i =
      let test = range_contains pair_cmp (Excluded after) Unbounded in
      let rest = filter test xs in
      elim (test x) as (λ b. test x ≡ b → In p (map (numbered_place value) (cond b (x ∷ rest) rest)) → is_after (numbered_place value after) p ≡ true) [
        | true ↦ λ b i. elim i as (λ i. is_after (numbered_place value after) p ≡ true) [
          | inl here ↦ ap (is_after (numbered_place value after)) here ∙ sym (after-is after x) ∙ b
          | inr later ↦ after-only after p xs later
        ]
        | false ↦ λ b i. after-only after p xs i
      ] refl i

  pub after-sorted : (after : N × ℕ) (ks : List (N × ℕ)) → IsStrictlySortedBy pair_cmp ks
      → IsStrictlySortedBy shelf_cmp
      (map (numbered_place value) (filter (range_contains pair_cmp (Excluded after) Unbounded) ks))
  after-sorted after ks s =
      let test = range_contains pair_cmp (Excluded after) Unbounded in
      sorted-of (filter test ks) (IsStrictlySortedBy-filter pair_cmp test ks s)
