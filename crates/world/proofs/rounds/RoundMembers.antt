-- Node 1 is always a member.
use Rattle.std.proofs.Common.{◌≡◌, true, List, ℕ, ◌+◌, ◌≤◌, arith}
use Rattle.std.proofs.lemmas.Bool.Decides.{nat_tests}
use Rattle.object.specs.Objects.{Rules}
use Rattle.ballot.specs.Members.{IsMembers, is_member}
use Rattle.ballot.specs.OrderLaws.{BallotLaws}
use Rattle.agreement.specs.Nodes.{Cluster}
use Rattle.agreement.specs.Runs.{IsWorld}
use Rattle.agreement.specs.Worlds.{World}
use Rattle.agreement.proofs.chosen.Invariants.{IsSound}
use Rattle.agreement.proofs.chosen.Reach.{reachable_sound}

pub first_member : (ws : List ℕ) → IsMembers ws → is_member ws 1 ≡ true
first_member ws is = let some = is.some in grind (arith, nat_tests)

-- a sound cluster that node 1 is a member of
pub record HasFirst {C : Type 0} (k : Cluster C) : Type 0 where
  pub sound : IsSound k
  pub first : is_member k.members 1 ≡ true

pub has_first : (laws : BallotLaws) {O Op Reply : Type 0} {rules : Rules O Op Reply} {w : World Op Reply} → IsWorld rules w
    → IsMembers w.cluster.members → HasFirst w.cluster
has_first laws {rules = rules} {w = w} is members =
    record { sound = reachable_sound laws rules w is.reachable; first = first_member w.cluster.members members }

-- where a count has come to its end
pub at_end : (start more p : ℕ) → (start ≤ start + more → p ≤ start + more) → start + more ≤ p → p ≡ start + more
at_end start more p within over = let h = within (omega arith) in omega arith
