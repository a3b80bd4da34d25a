use Rattle.std.proofs.Common.{sym, ap, ◌∙◌}
use Rattle.std.proofs.lemmas.Map.Steps.{set_value_same}
use Rattle.std.specs.BTreeMap.{is_at}
use Rattle.std.specs.Map.{set_value}
use Rattle.std.specs.Ordering.{nat_cmp}
use Rattle.object.proofs.KeyMaps.{on_err}
use Rattle.object.proofs.key_map.KeyMap.insert.Goals as goal

-- what was lent is as it was
pub returns-in_err-insert-clause-err : goal.returns-in_err-insert-clause-err
returns-in_err-insert-clause-err g c =
    let old = c.self.inside.sessions.entries in
    let at = is_at (nat_cmp c.args.key.session) in
    let same = (c.get_mut.follows.holds c.insert.new.self).0
    ∙ ap (set_value at old) c.in_err-insert.ensures.err
    ∙ set_value_same at old c.in-Some.numbers.now (sym c.in-Some.ensures.value)
    ∙ c.self.view_is in
    on_err c.from_residual.result same
