use Rattle.session_store.specs.Lines.{StandsIn, StillStand}
use Rattle.session_store.proofs.session_step.leave_steps.Given as goal

abbrev pub invariant-loop-step : goal.invariant-loop-step
invariant-loop-step l = StillStand (StandsIn l.initial.lines) (StandsIn l.lines) l.sessions.entries
