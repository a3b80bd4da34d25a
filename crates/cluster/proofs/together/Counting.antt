-- Events are counted at each host.
use Rattle.std.proofs.Common.{◌≡◌, ◌≢◌, ⊎_elim, ℕ, zero, suc, ◌+◌, ◌*◌, ◌^◌, ◌<◌, ◌≤◌, ◌==◌, true, false, cond, List}
use Rattle.std.proofs.Common.{length, ap, arith}
use Rattle.std.proofs.lemmas.Bool.{cases_eq}
use Rattle.std.proofs.lemmas.Bool.Decides.{nat_tests}
use Rattle.ballot.specs.Members.{is_member}
use Rattle.agreement.specs.Runs.{most_events}
use Rattle.agreement.proofs.chosen.Sets.{member_bounds}
use Rattle.cluster.specs.Clusters.{events_from, with_at}
use Rattle.cluster.proofs.alone.Acting.{same_number}

pub other_number : (m n : ℕ) → m ≢ n → (m == n) ≡ false
other_number m n e = grind (arith, nat_tests, e)

behind : (m n : ℕ) → n < m → m ≢ n
behind m n h e = absurd (omega (arith, h, e))

module _ (taken : ℕ → ℕ) (n j : ℕ) where
  abbrev more : ℕ → ℕ
  more = with_at taken n (taken n + j)

  count_behind : (len first : ℕ) → n < first → events_from more first len ≡ events_from taken first len
  count_behind zero first h = omega arith
  count_behind (suc len) first h =
      let here = ap (λ b. cond b (taken n + j) (taken first)) (other_number first n (behind first n h)) in
      let rest = count_behind len (first + 1) (omega arith) in
      omega (arith, here, rest)

  count_here : (len first : ℕ) → first ≡ n → events_from more first (suc len) ≡ events_from taken first (suc len) + j
  count_here len first e =
      let here = ap (λ b. cond b (taken n + j) (taken first)) (same_number first n e) in
      let rest = count_behind len (first + 1) (omega arith) in
      let same = ap taken e in
      omega (arith, here, rest, same)

  count_with : (len first : ℕ) → first ≤ n → n < first + len
      → events_from more first len ≡ events_from taken first len + j
  count_with zero first low high = absurd (omega arith)
  count_with (suc len) first low high = ⊎_elim
      (λ (e : first ≡ n). count_here len first e)
      (λ (e : first ≢ n).
      let here = ap (λ b. cond b (taken n + j) (taken first)) (other_number first n e) in
      let rest = count_with len (first + 1) (omega (arith, low, e)) (omega (arith, high)) in
      omega (arith, here, rest))
      (cases_eq first n)

pub count_more : (members : List ℕ) (taken : ℕ → ℕ) (n j : ℕ) → is_member members n ≡ true
    → events_from (with_at taken n (taken n + j)) 1 (length members) ≡ events_from taken 1 (length members) + j
count_more members taken n j member = let b = member_bounds members n member in let low = b.0 in let high = b.1 in
    count_with taken n j (length members) 1 low (omega (arith, high))

few_each : (taken : ℕ → ℕ) (len first : ℕ) → ((n : ℕ) → taken n ≤ 2 ^ 45)
    → events_from taken first len ≤ len * 35184372088832
few_each taken zero first each = omega arith
few_each taken (suc len) first each =
    let here : taken first ≤ 35184372088832 = each first in
    let rest = few_each taken len (first + 1) each in
    omega (arith, here, rest)

pub few_in_all : (taken : ℕ → ℕ) (len : ℕ) → len ≤ 7 → ((n : ℕ) → taken n ≤ 2 ^ 45)
    → events_from taken 1 len ≤ most_events
few_in_all taken len low each = let all = few_each taken len 1 each in
    let most : len * 35184372088832 ≤ 281474976710656 = omega (arith, low) in
    let whole : events_from taken 1 len ≤ 281474976710656 = omega (arith, all, most) in whole
