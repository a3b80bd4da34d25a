use Rattle.std.proofs.Common.{◌+◌}
use Rattle.world.specs.Rescues.{keeps_nodes}
use Rattle.world.specs.WaysOut.{first_book, ArePlaces, Goes}
use Rattle.world.proofs.ways.Bringing.{IsBringing, left}
use Rattle.world.proofs.way.Way.bring.Given as goal

abbrev pub invariant-loop-places : goal.invariant-loop-places
invariant-loop-places g l = record {
  bringing : IsBringing l.fn.self.trial l.self.trial (l.fn.self.trial.reach + 64) l.command;
  read : ArePlaces l.self.trial.cluster.letters l.places.read l.places;
  goes : Goes g.O.Object.rules keeps_nodes l.fn.self.trial l.fn.self.events.items l.self.trial l.self.events.items;
}

abbrev pub decreases-loop-places : goal.decreases-loop-places
decreases-loop-places g l = left (l.fn.self.trial.reach + 64) (first_book l.self.trial.cluster)
