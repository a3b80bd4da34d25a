use Rattle.std.proofs.Common.{◌≡◌}
use Rattle.forgetting_hall.specs.Telling.{TellsOn}
use Rattle.recovery.proofs.recovery.Recovery.obey.Given as goal

-- nothing takes effect as it is handed in
abbrev pub invariant-loop-command : goal.invariant-loop-command
invariant-loop-command g l = TellsOn g.O.Object.rules l.fn.self.hall l.self.hall × (l.self.live ≡ l.fn.self.live) × (l.self.second ≡ l.fn.self.second)
    × (l.self.sessions ≡ l.fn.self.sessions)
