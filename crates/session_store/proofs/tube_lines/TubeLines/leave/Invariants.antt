use Rattle.session_store.specs.Lines.{StillStand, StandsByTubes}
use Rattle.session_store.proofs.tube_lines.TubeLines.leave.Given as goal

abbrev pub invariant-loop-tube : goal.invariant-loop-tube
invariant-loop-tube l = StillStand (StandsByTubes l.initial.self) (StandsByTubes l.self) l.sessions.entries
