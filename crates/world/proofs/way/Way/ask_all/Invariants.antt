use Rattle.world.specs.WaysOut.{Goes, is_talk}
use Rattle.world.proofs.rounds.Asking.{IsAsking}
use Rattle.world.proofs.rounds.RoundTrips.{nudged}
use Rattle.world.proofs.way.Way.ask_all.Given as goal

abbrev pub invariant-loop-place : goal.invariant-loop-place
invariant-loop-place g l = record {
  asking : IsAsking (nudged l.fn.self.trial) l.self.trial l.first l.place;
  goes : Goes g.O.Object.rules is_talk l.fn.self.trial l.fn.self.events.items l.self.trial l.self.events.items;
}
