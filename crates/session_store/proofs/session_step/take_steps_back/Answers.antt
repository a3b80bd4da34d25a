use Rattle.std.proofs.Common.{arith}
use Rattle.session_store.proofs.SessionDrafts.{step_back-rises, steps-less}
use Rattle.session_store.proofs.session_step.take_steps_back.Goals as goal

pub loop-left-preserved : goal.loop-left-preserved
loop-left-preserved c = (
  omega arith,
  step_back-rises _ _ _ _ c.loop-left.invariant.1 c.take_step_back.ensures,
  steps-less c.args.steps.now c.loop-left.left _ _ _ _ (omega arith) c.loop-left.invariant.0 c.loop-left.invariant.2 c.take_step_back.ensures,
)
