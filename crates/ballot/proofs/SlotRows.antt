-- What a row of values and a map beside it answer together.
use Rattle.std.proofs.Common.{◌≡◌, ◌⊎◌, inl, inr, ⊎_elim, arith, ℕ, ◌+◌, ◌-◌, ◌<◌, ◌≤◌, true, false, cond, List, []}
use Rattle.std.proofs.Common.{◌∷◌, ◌++◌, length, suc, zero, Option, None, Some, refl, sym, ap, ap₂, ◌∙◌}
use Rattle.std.proofs.Math.ListN.{set}
use Rattle.std.specs.Prelude.{nat_le, slice_get, option_and_then}
use Rattle.std.specs.Option.{option_or}
use Rattle.std.specs.Ordering.{nat_cmp, eq_by_cmp}
use Rattle.std.specs.Cmp.{nat_cmp_total}
use Rattle.std.specs.FinMap.{get, insert, remove, get-insert, get-remove, same_map, nat_cmp-IsAntisymmetric}
use Rattle.std.proofs.lemmas.Option.{slice_get_past}
use Rattle.ballot.proofs.SlotMaps.{same_key, same_slots}
use Rattle.ballot.proofs.Rests.{get_above}
use Rattle.std.proofs.lemmas.Bool.Decides.{nat_tests}
use Rattle.ballot.specs.Slots.{Slots}
use Rattle.ballot.specs.SlotRows.{in_row, with_row, but_at}
use Rattle.ballot.specs.Rests.{kept_from}

-- the slot is before, at, or behind the first of the row
cases : (n q : ℕ) → (nat_le n q ≡ false) ⊎ ((q ≡ n) ⊎ ((nat_le (n + 1) q ≡ true) × (nat_le n q ≡ true)))
cases n q =
    elim (nat_le n q) as (λ b. nat_le n q ≡ b → (nat_le n q ≡ false) ⊎ ((q ≡ n) ⊎ ((nat_le (n + 1) q ≡ true) × (nat_le n q ≡ true)))) [
      | false ↦ λ e. inl e
      | true ↦ λ e. elim (nat_le (n + 1) q) as (λ b. nat_le (n + 1) q ≡ b → (nat_le n q ≡ false)
          ⊎ ((q ≡ n) ⊎ ((nat_le (n + 1) q ≡ true) × (nat_le n q ≡ true)))) [
            | false ↦ λ f. inr (inl (grind (arith, nat_tests)))
            | true ↦ λ f. inr (inr (f, e))
          ] refl
    ] refl

pub in_row_before : {X : Type 0} (n : ℕ) (os : List (Option X)) (q : ℕ) → nat_le n q ≡ false → in_row n os q ≡ None
in_row_before n os q e = ap (λ b. cond b (option_and_then (λ o. o) (slice_get os (q - n))) None) e

in_row_at : {X : Type 0} (n : ℕ) (os : List (Option X)) (q k : ℕ) → nat_le n q ≡ true → q - n ≡ k → in_row n os q ≡ option_and_then (λ o. o) (slice_get os k)
in_row_at n os q k e f = ap (λ b. cond b (option_and_then (λ o. o) (slice_get os (q - n))) None) e ∙ ap (λ k. option_and_then (λ o. o) (slice_get os k)) f

pub in_row_cons : {X : Type 0} (n : ℕ) (o : Option X) (os : List (Option X)) (q : ℕ)
    → in_row n (o ∷ os) q ≡ cond (eq_by_cmp nat_cmp q n) o (in_row (n + 1) os q)
in_row_cons n o os q =
    ⊎_elim
    (λ (e : nat_le n q ≡ false).
    let later : nat_le (n + 1) q ≡ false = grind (arith, nat_tests) in
    let other : eq_by_cmp nat_cmp q n ≡ false = grind (arith, nat_tests) in
    in_row_before n (o ∷ os) q e ∙ sym (ap (λ b. cond b o (in_row (n + 1) os q)) other ∙ in_row_before (n + 1) os q later))
    (λ h. ⊎_elim
    (λ (e : q ≡ n).
    let here : nat_le n q ≡ true = grind (arith, nat_tests) in
    let same : eq_by_cmp nat_cmp q n ≡ true = grind (arith, nat_tests) in
    in_row_at n (o ∷ os) q 0 here (omega arith) ∙ sym (ap (λ b. cond b o (in_row (n + 1) os q)) same))
    (λ (e : (nat_le (n + 1) q ≡ true) × (nat_le n q ≡ true)).
    let other : eq_by_cmp nat_cmp q n ≡ false = grind (arith, nat_tests, e.0) in
    let next : q - n ≡ suc (q - (n + 1)) = grind (arith, nat_tests, e.0) in
    in_row_at n (o ∷ os) q (suc (q - (n + 1))) e.1 next ∙ sym
    (ap (λ b. cond b o (in_row (n + 1) os q)) other ∙ in_row_at (n + 1) os q (q - (n + 1)) e.0 refl)) h)
    (cases n q)

none_of_nothing : {X : Type 0} (n q : ℕ) → in_row {X = X} n [] q ≡ None
none_of_nothing {X = X} n q = elim (nat_le n q) as (λ b. cond b (option_and_then (λ (o : Option X). o) None) None ≡ None) [ true ↦ refl | false ↦ refl ]

nothing_first : {X : Type 0} (n : ℕ) (os : List (Option X)) (q : ℕ) → cond (eq_by_cmp nat_cmp q n) None (in_row (n + 1) os q) ≡ in_row (n + 1) os q
nothing_first n os q =
    elim (eq_by_cmp nat_cmp q n) as (λ b. eq_by_cmp nat_cmp q n ≡ b → cond b None (in_row (n + 1) os q) ≡ in_row (n + 1) os q) [
      | true ↦ λ e. let before : nat_le (n + 1) q ≡ false = grind (arith, nat_tests, e) in sym (in_row_before (n + 1) os q before)
      | false ↦ λ e. refl
    ] refl

-- nothing at its end changes nothing
pub in_row_push_none : {X : Type 0} (n : ℕ) (os : List (Option X)) (q : ℕ) → in_row n (os ++ None ∷ []) q ≡ in_row n os q
in_row_push_none n [] q = in_row_cons n None [] q ∙ nothing_first n [] q ∙ none_of_nothing (n + 1) q ∙ sym (none_of_nothing n q)
in_row_push_none n (o ∷ os) q =
    in_row_cons n o (os ++ None ∷ []) q ∙ ap (λ r. cond (eq_by_cmp nat_cmp q n) o r) (in_row_push_none (n + 1) os q) ∙ sym (in_row_cons n o os q)

apart : {X : Type 0} (n k q : ℕ) (o v r : Option X)
    → cond (eq_by_cmp nat_cmp q n) o (cond (eq_by_cmp nat_cmp q (n + 1 + k)) v r)
    ≡ cond (eq_by_cmp nat_cmp q (n + suc k)) v (cond (eq_by_cmp nat_cmp q n) o r)
apart n k q o v r =
    elim (eq_by_cmp nat_cmp q n) as (λ b. eq_by_cmp nat_cmp q n ≡ b
    → cond b o (cond (eq_by_cmp nat_cmp q (n + 1 + k)) v r) ≡ cond (eq_by_cmp nat_cmp q (n + suc k)) v (cond b o r)) [
      | true ↦ λ e. let other : eq_by_cmp nat_cmp q (n + suc k) ≡ false = grind (arith, nat_tests, e) in sym (ap (λ b. cond b v o) other)
      | false ↦ λ e. let same : n + 1 + k ≡ n + suc k = omega arith in ap (λ m. cond (eq_by_cmp nat_cmp q m) v r) same
    ] refl

-- what was put at a place stands there
pub in_row_set : {X : Type 0} (n : ℕ) (os : List (Option X)) (k : ℕ) (v : Option X) (q : ℕ) → k < length os
    → in_row n (set os k v) q ≡ cond (eq_by_cmp nat_cmp q (n + k)) v (in_row n os q)
in_row_set n [] k v q h = absurd (omega arith)
in_row_set n (o ∷ os) zero v q h =
    let here : n + 0 ≡ n = omega arith in
    in_row_cons n v os q ∙ elim (eq_by_cmp nat_cmp q n) as (λ b. cond b v (in_row (n + 1) os q)
    ≡ cond b v (cond b o (in_row (n + 1) os q))) [ true ↦ refl | false ↦ refl ] ∙
    sym (ap (λ m. cond (eq_by_cmp nat_cmp q m) v (in_row n (o ∷ os) q)) here ∙ ap (λ r. cond (eq_by_cmp nat_cmp q n) v r) (in_row_cons n o os q))
in_row_set n (o ∷ os) (suc k) v q h =
    in_row_cons n o (set os k v) q ∙ ap (λ r. cond (eq_by_cmp nat_cmp q n) o r) (in_row_set (n + 1) os k v q (omega (arith, h))) ∙
    apart n k q o v (in_row (n + 1) os q) ∙ ap (λ r. cond (eq_by_cmp nat_cmp q (n + suc k)) v r) (sym (in_row_cons n o os q))

pub in_row_push : {X : Type 0} (n : ℕ) (os : List (Option X)) (o : Option X) (q : ℕ)
    → in_row n (os ++ o ∷ []) q ≡ cond (eq_by_cmp nat_cmp q (n + length os)) o (in_row n os q)
in_row_push n [] o q =
    let here : n ≡ n + 0 = omega arith in
    in_row_cons n o [] q ∙ ap₂ (λ k r. cond (eq_by_cmp nat_cmp q k) o r) here (none_of_nothing (n + 1) q ∙ sym (none_of_nothing n q))
in_row_push n (p ∷ os) o q =
    in_row_cons n p (os ++ o ∷ []) q ∙ ap (λ r. cond (eq_by_cmp nat_cmp q n) p r) (in_row_push (n + 1) os o q) ∙
    apart n (length os) q p o (in_row (n + 1) os q) ∙ ap (λ r. cond (eq_by_cmp nat_cmp q (n + suc (length os))) o r) (sym (in_row_cons n p os q))

-- the row goes before the map
pub get_with_row : {X : Type 0} (n : ℕ) (os : List (Option X)) (m : Slots X) (q : ℕ) → get (with_row n os m) q ≡ option_or (in_row n os q) (get m q)
unfolding with_row
get_with_row n [] m q = sym (ap (λ o. option_or o (get m q)) (none_of_nothing n q))
get_with_row n (None ∷ os) m q =
    get_with_row (n + 1) os m q ∙ ap (λ o. option_or o (get m q)) (sym (in_row_cons n None os q ∙ nothing_first n os q))
get_with_row n (Some x ∷ os) m q =
    get-insert nat_cmp_total (with_row (n + 1) os m) n x q ∙ ap (λ o. cond (eq_by_cmp nat_cmp q n) (Some x) o) (get_with_row (n + 1) os m q) ∙
    elim (eq_by_cmp nat_cmp q n) as (λ b. cond b (Some x) (option_or (in_row (n + 1) os q) (get m q))
    ≡ option_or (cond b (Some x) (in_row (n + 1) os q)) (get m q)) [ true ↦ refl | false ↦ refl ] ∙
    ap (λ o. option_or o (get m q)) (sym (in_row_cons n (Some x) os q))

-- an empty row changes nothing
pub with_nothing : {X : Type 0} (n : ℕ) (os : List (Option X)) (m : Slots X) → os ≡ [] → with_row n os m ≡ m
unfolding with_row
with_nothing n os m e = ap (λ os. with_row n os m) e

pub first_free : {X : Type 0} (k n : ℕ) (os : List (Option X)) (m : Slots X) → os ≡ [] → with_row k os m ≡ with_row n os m
first_free k n os m e = with_nothing k os m e ∙ sym (with_nothing n os m e)

-- a row that answers as before is the same
pub same_row : {X : Type 0} (n : ℕ) (os ps : List (Option X)) (m : Slots X) → ((s : ℕ) → in_row n ps s ≡ in_row n os s) → with_row n ps m ≡ with_row n os m
same_row n os ps m is =
    same_map nat_cmp_total nat_cmp-IsAntisymmetric (with_row n ps m) (with_row n os m)
    (λ q. get_with_row n ps m q ∙ ap (λ o. option_or o (get m q)) (is q) ∙ sym (get_with_row n os m q))

-- a value that came to the row
pub put_in_row : {X : Type 0} (n : ℕ) (os ps : List (Option X)) (m : Slots X) (k : ℕ) (v : X)
    → ((s : ℕ) → in_row n ps s ≡ but_at (in_row n os) k (Some v) s) → with_row n ps m ≡ insert (with_row n os m) k v
put_in_row n os ps m k v is =
    same_map nat_cmp_total nat_cmp-IsAntisymmetric (with_row n ps m) (insert (with_row n os m) k v)
    (λ q. get_with_row n ps m q ∙ ap (λ o. option_or o (get m q)) (is q) ∙
    elim (eq_by_cmp nat_cmp q k) as (λ b. option_or (cond b (Some v) (in_row n os q)) (get m q)
    ≡ cond b (Some v) (option_or (in_row n os q) (get m q))) [ true ↦ refl | false ↦ refl ] ∙
    ap (λ o. cond (eq_by_cmp nat_cmp q k) (Some v) o) (sym (get_with_row n os m q)) ∙ sym (get-insert nat_cmp_total (with_row n os m) k v q))

-- a value that came beside it
pub put_beside : {X : Type 0} (n : ℕ) (os : List (Option X)) (m : Slots X) (k : ℕ) (v : X) → in_row n os k ≡ None
    → with_row n os (insert m k v) ≡ insert (with_row n os m) k v
put_beside n os m k v free =
    same_map nat_cmp_total nat_cmp-IsAntisymmetric (with_row n os (insert m k v)) (insert (with_row n os m) k v)
    (λ q. get_with_row n os (insert m k v) q ∙ ap (λ o. option_or (in_row n os q) o) (get-insert nat_cmp_total m k v q) ∙
    at_key n os m k v free q ∙
    ap (λ o. cond (eq_by_cmp nat_cmp q k) (Some v) o) (sym (get_with_row n os m q)) ∙ sym (get-insert nat_cmp_total (with_row n os m) k v q))
  where
    at_key : {X : Type 0} (n : ℕ) (os : List (Option X)) (m : Slots X) (k : ℕ) (v : X) → in_row n os k ≡ None → (q : ℕ)
        → option_or (in_row n os q) (cond (eq_by_cmp nat_cmp q k) (Some v) (get m q))
        ≡ cond (eq_by_cmp nat_cmp q k) (Some v) (option_or (in_row n os q) (get m q))
    at_key n os m k v free q =
        elim (eq_by_cmp nat_cmp q k) as (λ b. eq_by_cmp nat_cmp q k ≡ b
        → option_or (in_row n os q) (cond b (Some v) (get m q))
        ≡ cond b (Some v) (option_or (in_row n os q) (get m q))) [
          | true ↦ λ e. ap (λ o. option_or o (Some v)) (ap (λ s. in_row n os s) (same_key k q e) ∙ free)
          | false ↦ λ e. refl
        ] refl

-- a value that was taken away, from both
pub taken : {X : Type 0} (n : ℕ) (os ps : List (Option X)) (m : Slots X) (k : ℕ)
    → ((s : ℕ) → in_row n ps s ≡ but_at (in_row n os) k None s)
    → with_row n ps (remove m k) ≡ remove (with_row n os m) k
taken n os ps m k is =
    same_map nat_cmp_total nat_cmp-IsAntisymmetric (with_row n ps (remove m k)) (remove (with_row n os m) k)
    (λ q. get_with_row n ps (remove m k) q ∙ ap₂ (λ o r. option_or o r) (is q) (get-remove nat_cmp_total m k q) ∙
    elim (eq_by_cmp nat_cmp q k) as (λ b. option_or (cond b None (in_row n os q)) (cond b None (get m q))
    ≡ cond b None (option_or (in_row n os q) (get m q))) [ true ↦ refl | false ↦ refl ] ∙
    ap (λ o. cond (eq_by_cmp nat_cmp q k) None o) (sym (get_with_row n os m q)) ∙ sym (get-remove nat_cmp_total (with_row n os m) k q))

-- where the row ends before a slot, or begins after it, it has nothing for it
pub outside : {X : Type 0} (n : ℕ) (os : List (Option X)) (k : ℕ) → (k < n) ⊎ (n + length os ≤ k) → in_row n os k ≡ None
outside n os k (inl h) = let before : nat_le n k ≡ false = grind (arith, nat_tests, h) in in_row_before n os k before
outside n os k (inr h) =
    let behind : nat_le n k ≡ true = grind (arith, nat_tests, h) in
    in_row_at n os k (k - n) behind refl ∙ ap (λ o. option_and_then (λ o. o) o) (slice_get_past os (k - n) (omega (arith, h)))

-- one more at the end of the row
pub with_row_push : {X : Type 0} (n : ℕ) (os : List (Option X)) (o : Option X) (m : Slots X)
    → with_row (n + length os) (o ∷ []) (with_row n os m) ≡ with_row n (os ++ o ∷ []) m
with_row_push n os o m =
    same_map nat_cmp_total nat_cmp-IsAntisymmetric (with_row (n + length os) (o ∷ []) (with_row n os m)) (with_row n (os ++ o ∷ []) m)
    (λ q. get_with_row (n + length os) (o ∷ []) (with_row n os m) q ∙
    ap₂ (λ r s. option_or r s) (in_row_cons (n + length os) o [] q ∙ ap
    (λ r. cond (eq_by_cmp nat_cmp q (n + length os)) o r) (none_of_nothing (n + length os + 1) q))
    (get_with_row n os m q) ∙
    last q ∙ ap (λ r. option_or r (get m q)) (sym (in_row_push n os o q)) ∙ sym (get_with_row n (os ++ o ∷ []) m q))
  where
    last : (q : ℕ) → option_or (cond (eq_by_cmp nat_cmp q (n + length os)) o None) (option_or (in_row n os q) (get m q))
        ≡ option_or (cond (eq_by_cmp nat_cmp q (n + length os)) o (in_row n os q)) (get m q)
    last q =
        elim (eq_by_cmp nat_cmp q (n + length os)) as (λ b. eq_by_cmp nat_cmp q (n + length os) ≡ b
        → option_or (cond b o None) (option_or (in_row n os q) (get m q))
        ≡ option_or (cond b o (in_row n os q)) (get m q)) [
          | true ↦ λ e. ap (λ r. option_or o (option_or r (get m q)))
              (ap (λ k. in_row n os k) (same_key (n + length os) q e) ∙ outside n os (n + length os)
              (inr (omega arith)))
          | false ↦ λ e. refl
        ] refl

-- and one of none is no row
pub with_row_one : {X : Type 0} (n : ℕ) (x : X) (m : Slots X) → with_row n (Some x ∷ []) m ≡ insert m n x
unfolding with_row
with_row_one n x m = refl

pub with_row_none : {X : Type 0} (n : ℕ) (m : Slots X) → with_row n (None ∷ []) m ≡ m
unfolding with_row
with_row_none n m = refl

-- from a base on, a row goes on as one that was cut
pub cut_row : {X : Type 0} (n k base : ℕ) (os ps : List (Option X)) (m : Slots X)
    → ((s : ℕ) → in_row k ps s ≡ cond (nat_le base s) (in_row n os s) None)
    → with_row k ps (kept_from base m) ≡ kept_from base (with_row n os m)
cut_row n k base os ps m is = same_slots _ _ (λ q.
    get_with_row k ps (kept_from base m) q
    ∙ ap₂ (λ o r. option_or o r) (is q) (get_above base m q)
    ∙ elim (nat_le base q) as (λ b. option_or (cond b (in_row n os q) None) (cond b (get m q) None)
    ≡ cond b (option_or (in_row n os q) (get m q)) None) [ true ↦ refl | false ↦ refl ]
    ∙ ap (λ o. cond (nat_le base q) o None) (sym (get_with_row n os m q))
    ∙ sym (get_above base (with_row n os m) q))
