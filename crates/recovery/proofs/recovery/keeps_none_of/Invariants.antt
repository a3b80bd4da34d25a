use Rattle.std.proofs.Common.{take}
use Rattle.recovery.specs.Sessions.{KeepsNoneOf}
use Rattle.recovery.proofs.recovery.keeps_none_of.Given as goal

abbrev pub invariant-loop-session : goal.invariant-loop-session
invariant-loop-session g l = KeepsNoneOf l.hall (take l.session-index l.sessions)
