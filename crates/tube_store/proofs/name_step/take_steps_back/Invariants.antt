use Rattle.std.proofs.Common.{◌≡◌}
use Rattle.tube_store.specs.NameSteps.{before_steps, AreByName}
use Rattle.tube_store.proofs.name_step.take_steps_back.Given as goal

abbrev pub invariant-loop-step : goal.invariant-loop-step
invariant-loop-step g l =
    (before_steps l.steps.items l.values.entries ≡ before_steps l.fn.steps.items l.fn.values.entries) × AreByName l.values.entries

abbrev pub decreases-loop-step : goal.decreases-loop-step
decreases-loop-step g l = goal.left-loop-step g l
