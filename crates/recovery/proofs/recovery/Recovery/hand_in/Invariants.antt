use Rattle.std.proofs.Common.{◌≡◌, ◌-◌, length}
use Rattle.forgetting_hall.specs.Telling.{TellsOn}
use Rattle.recovery.proofs.recovery.Recovery.hand_in.Given as goal

-- sessions are opened, and nothing takes effect
abbrev pub invariant-loop-self : goal.invariant-loop-self
invariant-loop-self g l = TellsOn g.O.Object.rules l.fn.self.hall l.self-inside.hall × (l.self-inside.live ≡ l.fn.self.live)
    × (l.self-inside.second ≡ l.fn.self.second)
    × (l.self-inside.sessions.items ≡ l.fn.self.sessions)

abbrev pub decreases-loop-self : goal.decreases-loop-self
decreases-loop-self g l = length l.self-inside.sessions.items - l.self-inside.opened
