use Rattle.session_store.specs.Lines.{StandsIn, StillStand}
use Rattle.session_store.proofs.lines.Lines.strike_all.Given as goal

abbrev pub invariant-loop-tube : goal.invariant-loop-tube
invariant-loop-tube l = StillStand (StandsIn l.initial.self) (StandsIn l.self) l.sessions.entries
