-- What members weigh: as many thousands as there are members at most, and one more at each further member.
use Rattle.std.proofs.Common.{◌≡◌, ◌≤◌, ◌<◌, ◌+◌, ◌*◌, ◌∙◌, sym, ℕ, zero, suc, Bool, true, false, List, [], ◌∷◌, length, take, sum, refl, arith, ap, subst}
use Rattle.std.specs.Prelude.{slice_index_or, if◌then◌else◌}
use Rattle.std.specs.List.{list_all}
use Rattle.std.proofs.lemmas.Bool.{and_parts}
use Rattle.std.proofs.lemmas.Bool.Decides.{nat_tests}
use Rattle.std.proofs.lemmas.List.Sums.{sum_by-take-le}
use Rattle.ballot.specs.Members.{IsMembers, is_weight, has, weigh}
use Rattle.ballot.proofs.Majorities.{weigh-le, sum-cons}

pub sum-bound : (ws : List ℕ) → list_all is_weight ws ≡ true → sum ws ≤ 1000 * length ws
sum-bound [] h = omega arith
sum-bound (w ∷ ws) h =
    let both = and_parts (is_weight w) (list_all is_weight ws) h in
    let first : w ≤ 1000 = grind (arith, nat_tests) in
    let rest = sum-bound ws both.1 in omega (arith, sum-cons w ws)

-- one more member
weigh-suc : (ws : List ℕ) (set : List Bool) (i : ℕ) → i < length ws
    → weigh (take (suc i) ws) set ≡ weigh (take i ws) set +
    (if slice_index_or set i false then slice_index_or ws i 0 else 0)
weigh-suc [] set i h = absurd (omega arith)
weigh-suc (w ∷ ws) [] zero h = refl
weigh-suc (w ∷ ws) [] (suc i) h = refl
weigh-suc (w ∷ ws) (b ∷ bs) zero h = omega arith
weigh-suc (w ∷ ws) (b ∷ bs) (suc i) h = let e = weigh-suc ws bs i (omega arith) in omega arith

pub weigh-more : (ws : List ℕ) (set : List Bool) (i : ℕ) → i < length ws
    → weigh (take (i + 1) ws) set ≡ weigh (take i ws) set + (if has set (i + 1) then slice_index_or ws i 0 else 0)
weigh-more ws set i h =
    let one : i + 1 ≡ suc i = omega arith in
    subst (λ n. weigh (take n ws) set ≡ weigh (take i ws) set + (if has set n then slice_index_or ws i 0 else 0)) (sym one) (weigh-suc ws set i h)

sum-suc : (ws : List ℕ) (i : ℕ) → i < length ws → sum (take (suc i) ws) ≡ sum (take i ws) + slice_index_or ws i 0
sum-suc [] i h = absurd (omega arith)
sum-suc (w ∷ ws) zero h = omega (arith, sum-cons w [])
sum-suc (w ∷ ws) (suc i) h = let e = sum-suc ws i (omega arith) in omega (arith, sum-cons w (take (suc i) ws), sum-cons w (take i ws))

pub sum-more : (ws : List ℕ) (i : ℕ) → i < length ws → sum (take (i + 1) ws) ≡ sum (take i ws) + slice_index_or ws i 0
sum-more ws i h = let one : i + 1 ≡ suc i = omega arith in ap (λ n. sum (take n ws)) one ∙ sum-suc ws i h

-- what some of the members weigh, and one more of them, is within 7000
pub sum-few : (ws : List ℕ) (i : ℕ) → i < length ws → IsMembers ws → sum (take i ws) + slice_index_or ws i 0 ≤ 7000
sum-few ws i h m =
    let more = sum-more ws i h in
    let most = sum_by-take-le (λ x. x) ws (i + 1) in
    let bound = sum-bound ws m.each in
    let few = m.few in omega arith

pub weigh-few : (ws : List ℕ) (set : List Bool) (i : ℕ) → i < length ws → IsMembers ws → weigh (take i ws) set + slice_index_or ws i 0 ≤ 7000
weigh-few ws set i h m =
    let less = weigh-le (take i ws) set in
    let few = sum-few ws i h m in omega arith
