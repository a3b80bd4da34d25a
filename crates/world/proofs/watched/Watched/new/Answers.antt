use Rattle.std.proofs.Common.{ap}
use Rattle.world.proofs.steps.Watching.{new_shows}
use Rattle.world.proofs.watched.Watched.new.Goals as goal

pub invariant_of-result : goal.invariant_of-result
invariant_of-result g c = new_shows _ _ (ap (λ n. n.acceptor) c.in_ok-new.ensures) c.new-2.ensures.items
