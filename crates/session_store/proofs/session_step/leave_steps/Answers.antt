use Rattle.session_store.proofs.session_step.leave_steps.Goals as goal

pub loop-step-preserved : goal.loop-step-preserved
loop-step-preserved c = λ h. c.leave_step.ensures (c.loop-step.invariant h)
