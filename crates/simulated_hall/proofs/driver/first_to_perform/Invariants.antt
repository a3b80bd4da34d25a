use Rattle.std.proofs.Common.{◌≡◌, ◌≤◌, ℕ, true, false}
use Rattle.ballot.specs.Members.{is_member}
use Rattle.std.specs.Prelude.{is_some}
use Rattle.slot_log.specs.Decisions.{next_decided}
use Rattle.network.specs.Networks.{node_of}
use Rattle.simulated_hall.proofs.driver.first_to_perform.Given as goal

abbrev pub invariant-loop-before : goal.invariant-loop-before
invariant-loop-before g l =
    (m : ℕ) → is_member l.hall.nodes.network.members m ≡ true → m ≤ l.before → is_some (next_decided (node_of l.hall.nodes.network m).replica) ≡ false
