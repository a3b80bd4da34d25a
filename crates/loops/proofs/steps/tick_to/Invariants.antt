use Rattle.std.proofs.Common.{◌≤◌, max}
use Rattle.forgetting_hall.specs.Handing.{second_of}
use Rattle.forgetting_hall.specs.Leading.{TurnsOn}
use Rattle.loops.proofs.steps.tick_to.Given as goal

-- the hall goes on, and its clock no further than to the second
abbrev pub invariant-loop : goal.invariant-loop
invariant-loop g l = TurnsOn g.O.Object.rules l.fn.hall l.hall × (second_of l.hall ≤ max (second_of l.fn.hall) l.fn.second)
