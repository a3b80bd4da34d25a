use Rattle.std.proofs.Common.{◌≡◌, ◌≤◌, ℕ, true}
use Rattle.ballot.specs.Members.{is_member}
use Rattle.network.specs.Networks.{has_mail}
use Rattle.simulated_hall.proofs.Heaviest.{NoneHeavier}
use Rattle.simulated_hall.proofs.driver.heaviest_with_mail.Given as goal

abbrev pub invariant-loop-before : goal.invariant-loop-before
invariant-loop-before g l = record {
  member : is_member l.hall.nodes.network.members l.best ≡ true;
  mail : has_mail l.hall.nodes.network l.best ≡ true;
  heaviest : NoneHeavier l.hall.nodes.network.members (λ n. has_mail l.hall.nodes.network n) l.before l.best;
}
