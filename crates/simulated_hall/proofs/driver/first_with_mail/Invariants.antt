use Rattle.std.proofs.Common.{◌≡◌, ◌≤◌, ℕ, true, false}
use Rattle.ballot.specs.Members.{is_member}
use Rattle.network.specs.Networks.{has_mail}
use Rattle.simulated_hall.proofs.driver.first_with_mail.Given as goal

abbrev pub invariant-loop-before : goal.invariant-loop-before
invariant-loop-before g l =
    (m : ℕ) → is_member l.hall.nodes.network.members m ≡ true → m ≤ l.before → has_mail l.hall.nodes.network m ≡ false
