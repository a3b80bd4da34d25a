use Rattle.std.proofs.Common.{take}
use Rattle.agreement.specs.Runs.{Leads}
use Rattle.agreement.specs.Agreements.{StaysChosen}
use Rattle.world.proofs.world.World.run.Given as goal

abbrev pub invariant-loop-index : goal.invariant-loop-index
invariant-loop-index g l = record {
  led : Leads g.O.Object.rules l.fn.self (take l.index l.fn.events) l.self;
  stays : StaysChosen l.fn.self.cluster l.self.cluster;
}
