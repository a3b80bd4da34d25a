use Rattle.forgetting_hall.specs.Telling.{TellsOn}
use Rattle.recovery.proofs.recovery.Recovery.finish.Given as goal

-- nothing takes effect as it is handed in
abbrev pub invariant-loop-session : goal.invariant-loop-session
invariant-loop-session g l = TellsOn g.O.Object.rules l.fn.self.hall l.hall
