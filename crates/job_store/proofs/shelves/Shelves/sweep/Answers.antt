use Rattle.std.proofs.Common.{◌≡◌, [], ◌++◌, rules, ap, ap₂, refl, sym, ◌∙◌}
use Rattle.std.proofs.lemmas.List.{append-nil}
use Rattle.std.specs.Option.{option_to_list}
use Rattle.job_store.specs.declared.label.Label.{Label}
use Rattle.job_store.proofs.shelving.Shelving.{sweep-step, held-same, reach-same}
use Rattle.job_store.proofs.shelves.Shelves.sweep.Goals as goal

pub loop-id-init : goal.loop-id-init
loop-id-init c = record {
  held = held-same c.args.self.now (record c.args.self.now { came = c.clear.new.self }) c.args.jobs.now.entries
      c.args.self.now.went.items c.args.self.now.went.items
      (elim [
        | Label.Ready tube ↦ refl
        | Label.Delayed tube ↦ refl
        | Label.Buried tube ↦ refl
        | Label.Held x ↦ refl
        | Label.Scheduled ↦ refl
        | Label.Reserved tube ↦ refl
      ])
      refl c.requires;
  none = search rules;
}

pub take_everywhere-requires : goal.take_everywhere-requires
take_everywhere-requires c =
    reach-same c.loop-id.self (record c.loop-id.self { went = c.pop.new.self }) c.args.jobs.now.entries c.loop-id.self.went.items
    (elim [
      | Label.Ready tube ↦ refl
      | Label.Delayed tube ↦ refl
      | Label.Buried tube ↦ refl
      | Label.Held x ↦ refl
      | Label.Scheduled ↦ refl
      | Label.Reserved tube ↦ refl
    ])
    c.loop-id.invariant.held

pub loop-id-preserved-in-Some : goal.loop-id-preserved-in-Some
loop-id-preserved-in-Some c =
    sweep-step c.loop-id.self (record c.loop-id.self { went = c.pop.new.self }) c.take_everywhere.new.self
    c.args.jobs.now.entries (c.in-Some.id, c.in-Some.spot)
    (elim [
      | Label.Ready tube ↦ refl
      | Label.Delayed tube ↦ refl
      | Label.Buried tube ↦ refl
      | Label.Held x ↦ refl
      | Label.Scheduled ↦ refl
      | Label.Reserved tube ↦ refl
    ])
    refl
    (c.pop.ensures.items ∙ ap (λ o. c.pop.new.self.items ++ option_to_list o) c.in-Some.is)
    c.take_everywhere.ensures.taken c.take_everywhere.ensures.gone c.loop-id.invariant

pub loop-id-preserved : goal.loop-id-preserved
loop-id-preserved c =
    sweep-step c.loop-id.self (record c.loop-id.self { went = c.pop.new.self }) c.take_everywhere.new.self
    c.args.jobs.now.entries (c.in-Some.id, c.in-Some.spot)
    (elim [
      | Label.Ready tube ↦ refl
      | Label.Delayed tube ↦ refl
      | Label.Buried tube ↦ refl
      | Label.Held x ↦ refl
      | Label.Scheduled ↦ refl
      | Label.Reserved tube ↦ refl
    ])
    refl
    (c.pop.ensures.items ∙ ap (λ o. c.pop.new.self.items ++ option_to_list o) c.in-Some.is)
    c.take_everywhere.ensures.taken c.take_everywhere.ensures.gone c.loop-id.invariant

pub returns : goal.returns
returns c =
    let none : c.pop.new.self.items ≡ [] = search rules in
    let was : c.loop-id.self.went.items ≡ [] =
    c.pop.ensures.items ∙ ap (λ o. c.pop.new.self.items ++ option_to_list o) c.in_default.is ∙ append-nil c.pop.new.self.items ∙ none in
    record {
      held = held-same c.loop-id.self (record c.loop-id.self { went = c.pop.new.self }) c.args.jobs.now.entries
          c.loop-id.self.went.items []
          (elim [
            | Label.Ready tube ↦ refl
            | Label.Delayed tube ↦ refl
            | Label.Buried tube ↦ refl
            | Label.Held x ↦ refl
            | Label.Scheduled ↦ refl
            | Label.Reserved tube ↦ refl
          ])
          (sym was) c.loop-id.invariant.held;
      listed = ap₂ (λ x y. (x, y)) c.loop-id.invariant.none none;
    }
