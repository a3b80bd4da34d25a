use Rattle.std.proofs.Common.{◌+◌, ◌≤◌}
use Rattle.world.specs.WaysOut.{IsSmall, HasTalked, work}
use Rattle.world.proofs.way.Way.come_to_rest.Given as goal

abbrev pub invariant-loop-self : goal.invariant-loop-self
invariant-loop-self g l = record {
  small : IsSmall l.self.trial.cluster;
  spent : l.self.trial.taken + work l.self.trial.cluster ≤ l.fn.self.trial.taken + work l.fn.self.trial.cluster;
  talked : HasTalked g.O.Object.rules l.fn.self.trial l.fn.self.events.items l.self.trial l.self.events.items;
}

abbrev pub decreases-loop-self : goal.decreases-loop-self
decreases-loop-self g l = work l.self.trial.cluster
