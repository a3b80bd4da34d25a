-- What each member's host counts is all that is counted.
use Rattle.std.proofs.Common.{◌≡◌, ℕ, zero, suc, ◌+◌, ◌^◌, ◌≤◌, Bool, true, false, cond, List, length}
use Rattle.std.proofs.Common.{refl, ap, subst, arith}
use Rattle.std.proofs.lemmas.Bool.Decides.{nat_tests}
use Rattle.ballot.specs.Members.{is_member}
use Rattle.agreement.specs.Runs.{most_events}
use Rattle.cluster.specs.Clusters.{Hosts, events_from, total_events}
use Rattle.host.specs.Counting.{most_host_events}
use Rattle.host.specs.Steps.{CountEvents}

-- the counts of members, and 0 for everyone else
abbrev of_members : List ℕ → (ℕ → ℕ) → ℕ → ℕ
of_members members taken n = cond (is_member members n) (taken n) 0

same_count : (members : List ℕ) (taken : ℕ → ℕ) (len first : ℕ) → 1 ≤ first → first + len ≤ length members + 1
    → events_from (of_members members taken) first len ≡ events_from taken first len
same_count members taken zero first low high = refl
same_count members taken (suc len) first low high =
    let member : is_member members first ≡ true = grind (arith, nat_tests, low, high) in
    let here = ap (λ b. cond b (taken first) 0) member in
    let rest = same_count members taken len (first + 1) (omega (arith, low)) (omega (arith, high)) in
    omega (arith, here, rest)

within_if : (b : Bool) (x : ℕ) → (b ≡ true → x ≤ most_host_events) → cond b x 0 ≤ most_host_events
within_if true x h = h refl
within_if false x h = omega arith

pub few_of_counted : {Op O Reply : Type 0} (k : Hosts Op O Reply)
    → ((j : Hosts Op O Reply) → length j.members ≤ 7 → ((n : ℕ) → j.taken n ≤ 2 ^ 45) → total_events j ≤ most_events)
    → length k.members ≤ 7 → CountEvents k → total_events k ≤ most_events
few_of_counted k few members counted =
    let each : (n : ℕ) → of_members k.members k.taken n ≤ most_host_events =
    λ n. within_if (is_member k.members n) (k.taken n)
    (λ m. let c = counted n m in let less = c.1.taken in let most = c.2 in omega (arith, less, most)) in
    subst (λ x. x ≤ most_events)
    (same_count k.members k.taken (length k.members) 1 (omega arith) (omega arith))
    (few (record k { taken = of_members k.members k.taken }) members each)
