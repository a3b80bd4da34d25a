use Rattle.std.proofs.Common.{◌++◌, ap, ◌∙◌}
use Rattle.std.specs.Option.{option_to_list}
use Rattle.tube_store.proofs.NameSteps.{before-less}
use Rattle.tube_store.proofs.name_step.take_steps_back.Goals as goal

pub loop-step-preserved : goal.loop-step-preserved
loop-step-preserved g c = (
  before-less c.loop-step.steps.items c.pop.new.self.items c.in-Some.step c.loop-step.values.entries
      c.take_step_back.new.values.entries _
      (c.pop.ensures.items ∙ ap (λ o. c.pop.new.self.items ++ option_to_list o) c.in-Some.is) c.loop-step.invariant.0
      c.take_step_back.ensures.same,
  c.take_step_back.ensures.ordered,
)
