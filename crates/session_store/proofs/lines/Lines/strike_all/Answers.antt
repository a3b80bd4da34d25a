use Rattle.session_store.proofs.lines.Lines.strike_all.Goals as goal

pub loop-tube-preserved : goal.loop-tube-preserved
loop-tube-preserved c = λ h. c.strike.ensures (c.loop-tube.invariant h)
