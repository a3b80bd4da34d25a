-- Values in few slots are few.
use Rattle.std.proofs.Common.{◌≡◌, ℕ, ◌+◌, ◌<◌, ◌≤◌, Bool, true, false, List, [], ◌∷◌, length, Some, arith}
use Rattle.std.specs.Prelude.{T, ◌&&◌}
use Rattle.std.specs.FinMap.{get, len, entries, is_sorted, entries_sorted, len-entries}
use Rattle.std.specs.FinMap.Entries.{below_all}
use Rattle.std.specs.Ordering.{nat_cmp, is_lt}
use Rattle.std.proofs.lemmas.Bool.Decides.{nat_tests}
use Rattle.object.specs.ListLaws.{Each, Each-weaker}
use Rattle.ballot.specs.Slots.{Slots}
use Rattle.node.specs.SlotLaws.{entries_get}

both_parts : (a b : Bool) → T (a && b) → T a × T b
both_parts true b h = (tt, h)
both_parts false b h = absurd h

less_from : (x y : ℕ) → T (is_lt (nat_cmp x y)) → x < y
less_from x y h = grind (arith, nat_tests)

-- slots that rise from above a first one
rising_few : {X : Type 0} (first last : ℕ) (es : List (ℕ × X)) → T (below_all nat_cmp first es)
    → T (is_sorted nat_cmp es) → Each (λ e. e.0 ≤ last) es → first ≤ last → first + length es ≤ last
rising_few first last [] above sorted low h = omega arith
rising_few first last (e ∷ es) above sorted low h =
    let next = less_from first e.0 (both_parts _ _ above).0 in
    let rest : e.0 + length es ≤ last =
    rising_few e.0 last es (both_parts (below_all nat_cmp e.0 es) (is_sorted nat_cmp es) sorted).0
    (both_parts (below_all nat_cmp e.0 es) (is_sorted nat_cmp es) sorted).1 low.1 low.0 in
    omega arith

sorted_few : {X : Type 0} (last : ℕ) (es : List (ℕ × X)) → T (is_sorted nat_cmp es) → Each (λ e. e.0 ≤ last) es → length es ≤ last + 1
sorted_few last [] sorted low = omega arith
sorted_few last (e ∷ es) sorted low =
    let rest : e.0 + length es ≤ last =
    rising_few e.0 last es (both_parts (below_all nat_cmp e.0 es) (is_sorted nat_cmp es) sorted).0
    (both_parts (below_all nat_cmp e.0 es) (is_sorted nat_cmp es) sorted).1 low.1 low.0 in
    omega arith

-- where each slot with a value is at most b, they are at most b + 1
pub few_proposals : {X : Type 0} (m : Slots X) (b : ℕ) → ((s : ℕ) (v : X) → get m s ≡ Some v → s ≤ b) → len m ≤ b + 1
few_proposals m b low =
    let count = len-entries m in
    let few = sorted_few b (entries m) (entries_sorted m)
    (Each-weaker (λ e. get m e.0 ≡ Some e.1) (λ e. e.0 ≤ b) (λ e there. low e.0 e.1 there) (entries m)
    (entries_get m)) in
    omega arith
