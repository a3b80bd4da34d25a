use Rattle.std.proofs.Common.{◌≡◌, [], ◌++◌, rules, ap, refl, ◌∙◌}
use Rattle.std.proofs.lemmas.List.{append-nil}
use Rattle.std.specs.Option.{option_to_list}
use Rattle.job_store.specs.declared.label.Label.{Label}
use Rattle.job_store.proofs.shelving.Shelving.{none-reached, reach-step, all-reached}
use Rattle.job_store.proofs.shelves.Shelves.reach_all.Goals as goal

pub loop-id-init : goal.loop-id-init
loop-id-init c = none-reached c.args.self.now

pub loop-id-preserved-in-Some : goal.loop-id-preserved-in-Some
loop-id-preserved-in-Some c =
    reach-step c.args.self.now c.loop-id.self
    (record c.loop-id.self { went = c.pop.new.self }) c.reach_everywhere.new.self (c.in-Some.id, c.in-Some.spot)
    (elim [
      | Label.Ready tube ↦ refl
      | Label.Delayed tube ↦ refl
      | Label.Buried tube ↦ refl
      | Label.Held x ↦
          refl
      | Label.Scheduled ↦ refl
      | Label.Reserved tube ↦ refl
    ]) refl
    (c.pop.ensures.items ∙ ap (λ o. c.pop.new.self.items ++ option_to_list o) c.in-Some.is)
    c.reach_everywhere.ensures.back c.reach_everywhere.ensures.ahead c.loop-id.invariant

pub loop-id-preserved : goal.loop-id-preserved
loop-id-preserved c =
    reach-step c.args.self.now c.loop-id.self
    (record c.loop-id.self { went = c.pop.new.self }) c.reach_everywhere.new.self (c.in-Some.id, c.in-Some.spot)
    (elim [
      | Label.Ready tube ↦ refl
      | Label.Delayed tube ↦ refl
      | Label.Buried tube ↦ refl
      | Label.Held x ↦
          refl
      | Label.Scheduled ↦ refl
      | Label.Reserved tube ↦ refl
    ]) refl
    (c.pop.ensures.items ∙ ap (λ o. c.pop.new.self.items ++ option_to_list o) c.in-Some.is)
    c.reach_everywhere.ensures.back c.reach_everywhere.ensures.ahead c.loop-id.invariant

pub returns-clause-reached : goal.returns-clause-reached
returns-clause-reached c =
    let none : c.pop.new.self.items ≡ [] = search rules in
    all-reached c.args.self.now c.loop-id.self (record c.loop-id.self { went = c.pop.new.self })
    (elim [
      | Label.Ready tube ↦ refl
      | Label.Delayed tube ↦ refl
      | Label.Buried tube ↦ refl
      | Label.Held x ↦
          refl
      | Label.Scheduled ↦ refl
      | Label.Reserved tube ↦ refl
    ])
    (c.pop.ensures.items ∙ ap (λ o. c.pop.new.self.items ++ option_to_list o) c.in_default.is ∙ append-nil c.pop.new.self.items ∙ none)
    c.loop-id.invariant
