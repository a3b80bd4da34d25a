use Rattle.std.proofs.Common.{◌≡◌, ◌∙◌, ℕ, List, ap, sym, None, BTreeMap, rules}
use Rattle.std.specs.Option.{option_copied_mut}
use Rattle.std.specs.Map.{lookup}
use Rattle.std.specs.BTreeMap.{is_at}
use Rattle.bean_words.specs.Names.{name_cmp}
use Rattle.tube_store.specs.declared.name_step.NameStep.{NameStep}
use Rattle.tube_store.specs.NameSteps.{step_back}
use Rattle.tube_store.proofs.NameMaps.{set-absent}
use Rattle.tube_store.proofs.name_step.take_step_back.Goals as goal

pub returns : goal.returns
returns g c = record {
  same =
      let none : lookup (is_at (name_cmp c.in-Changed.tube)) c.args.values.now.entries ≡ None =
      sym c.get_mut.ensures.value ∙ ap option_copied_mut c.in_default.is in
      ap (λ (m : BTreeMap (List ℕ) _). m.entries) c.get_mut.follows.holds-at-none ∙
      sym (set-absent c.in-Changed.tube c.in-Changed.before c.args.values.now.entries none) ∙
      ap (λ (s : NameStep _). step_back s c.args.values.now.entries) (sym c.in-Changed.is);
  ordered = search rules;
}
