use Rattle.std.proofs.Common.{◌≡◌}
use Rattle.forgetting_hall.specs.Telling.{TellsOn}
use Rattle.recovery.proofs.steps.forget.Given as goal

abbrev pub invariant-loop-session : goal.invariant-loop-session
invariant-loop-session g l = TellsOn g.O.Object.rules l.fn.hall l.hall × (l.hall.gathering ≡ l.fn.hall.gathering)
