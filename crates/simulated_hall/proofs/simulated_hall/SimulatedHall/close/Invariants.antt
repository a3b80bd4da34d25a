use Rattle.std.proofs.Common.{◌≡◌}
use Rattle.object.specs.declared.command.Act.TheVariants.{Close}
use Rattle.simulated_hall.specs.Stopping.{RefusesAct}
use Rattle.simulated_hall.proofs.simulated_hall.SimulatedHall.close.Given as goal

abbrev pub invariant-loop : goal.invariant-loop
invariant-loop g l = record {
  same : l.self ≡ record l.fn.self { calls = l.counter };
  first : RefusesAct g.O.Op.PartialEq.eq l.fn.self.hall l.fn.self.ticket Close → l.counter ≡ 0;
}
