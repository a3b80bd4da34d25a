use Rattle.std.proofs.Common.{refl, ap, ◌∙◌, ◌++◌, ◌∷◌, []}
use Rattle.job_store.specs.declared.label.Label.{Label}
use Rattle.job_store.proofs.shelving.Shelving.{more-listed}
use Rattle.job_store.proofs.shelves.Shelves.leave.Goals as goal

pub returns-clause-more : goal.returns-clause-more
returns-clause-more c = record {
  shelves = (elim [
    | Label.Ready tube ↦ refl
    | Label.Delayed tube ↦ refl
    | Label.Buried tube ↦ refl
    | Label.Held x ↦ refl
    | Label.Scheduled ↦ refl
    | Label.Reserved tube ↦ refl
  ]);
  came = λ e i. i;
  went = more-listed c.args.self.now.went.items c.push.new.self.items (c.args.id, c.in_ok-of.field-0) c.in_ok-push.ensures.items;
}

pub returns-clause-ok : goal.returns-clause-ok
returns-clause-ok c =
    c.in_ok-push.ensures.items ∙ ap (λ spot. c.args.self.now.went.items ++ (c.args.id, spot) ∷ []) c.in_ok-of.ensures
