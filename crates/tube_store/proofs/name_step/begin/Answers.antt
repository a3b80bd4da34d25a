use Rattle.std.proofs.Common.{◌++◌, ◌∷◌, [], ap, ◌∙◌}
use Rattle.tube_store.specs.declared.name_step.NameStep.{NameStep}
use Rattle.tube_store.proofs.NameSteps.{before-step, begun-back}
use Rattle.tube_store.proofs.name_step.begin.Goals as goal

pub returns-clause-before : goal.returns-clause-before
returns-clause-before g c =
    before-step c.args.steps.now.items c.push.new.self.items (NameStep.Begun c.in_ok-begun.begun)
    c.args.values.now.entries c.insert.new.self.entries
    (c.in_ok-push.ensures.items ∙ ap (λ zs. zs ++ NameStep.Begun c.in_ok-begun.begun ∷ []) c.reserve.ensures.items)
    (begun-back c.args.tube.now c.in_ok-begun.begun c.in_ok-copy.field-0 c.args.first _ _ c.in_ok-begun.ensures
    c.in_ok-copy.ensures c.in_ok-insert.ensures.entries c.requires.absent)
