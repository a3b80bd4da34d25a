use Rattle.std.proofs.Common.{ap, ap₂, sym, ◌∙◌}
use Rattle.std.proofs.lemmas.Map.Steps.{set_value_same}
use Rattle.object.proofs.KeyMaps.{on_err}
use Rattle.std.specs.BTreeMap.{insert_entry}
use Rattle.bean_words.specs.Names.{name_cmp}
use Rattle.tube_store.specs.declared.name_step.NameStep.{NameStep}
use Rattle.tube_store.specs.NameSteps.{before_steps}
use Rattle.tube_store.proofs.NameMaps.{set-inserts}
use Rattle.tube_store.proofs.NameSteps.{before-step, changed-back}
use Rattle.tube_store.proofs.name_step.change_value.Goals as goal

pub returns-in_err-copy-clause-err : goal.returns-in_err-copy-clause-err
returns-in_err-copy-clause-err g c =
    on_err c.from_residual.result ((c.get_mut.follows.holds c.in-Some.found.now).0 ∙ set_value_same _ _ _ (sym c.in-Some.ensures.value))

pub returns-in_err-copy-clause-before : goal.returns-in_err-copy-clause-before
returns-in_err-copy-clause-before g c =
    ap (before_steps c.args.steps.now.items)
    ((c.get_mut.follows.holds c.in-Some.found.now).0 ∙ set_value_same _ _ _ (sym c.in-Some.ensures.value))

pub returns-in_err-push-clause-err : goal.returns-in_err-push-clause-err
returns-in_err-push-clause-err g c =
    on_err c.from_residual-in_err-push.result ((c.get_mut.follows.holds c.in-Some.found.now).0 ∙ set_value_same _ _ _ (sym c.in-Some.ensures.value))

pub returns-in_err-push-clause-before : goal.returns-in_err-push-clause-before
returns-in_err-push-clause-before g c =
    ap₂ before_steps c.in_err-push.ensures.items
    ((c.get_mut.follows.holds c.in-Some.found.now).0 ∙ set_value_same _ _ _ (sym c.in-Some.ensures.value))

pub returns-in-Some-clause-values : goal.returns-in-Some-clause-values
returns-in-Some-clause-values g c =
    (c.get_mut.follows.holds c.after.result).0 ∙
    set-inserts c.args.tube.now c.after.result c.in-Some.found.now c.args.values.now.entries c.requires (sym c.in-Some.ensures.value) ∙
    ap (insert_entry name_cmp c.args.values.now.entries c.args.tube.now)
    (c.after.ensures ∙ ap (g.C.ValueChange.after c.args.change) c.in-Some.ensures.value)

pub returns-in-Some-clause-before : goal.returns-in-Some-clause-before
returns-in-Some-clause-before g c =
    before-step c.args.steps.now.items c.push.new.self.items
    (NameStep.Changed c.in_ok-copy.field-0 c.in-Some.found.now) c.args.values.now.entries _ c.in_ok-push.ensures.items
    (changed-back c.args.tube.now c.in_ok-copy.field-0 c.after.result c.in-Some.found.now _ _ c.in_ok-copy.ensures
    (c.get_mut.follows.holds c.after.result).0 (sym c.in-Some.ensures.value))
