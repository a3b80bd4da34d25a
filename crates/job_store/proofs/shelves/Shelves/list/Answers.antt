use Rattle.std.proofs.Common.{refl, ap, ◌∙◌, ◌++◌, ◌∷◌, []}
use Rattle.job_store.specs.declared.label.Label.{Label}
use Rattle.job_store.proofs.shelving.Shelving.{more-listed, still-listed}
use Rattle.job_store.proofs.shelves.Shelves.list.Goals as goal

pub returns-in_err-copy-2-clause-more : goal.returns-in_err-copy-2-clause-more
returns-in_err-copy-2-clause-more c = record {
  shelves = (elim [
    | Label.Ready tube ↦ refl
    | Label.Delayed tube ↦ refl
    | Label.Buried tube ↦ refl
    | Label.Held x ↦ refl
    | Label.Scheduled ↦ refl
    | Label.Reserved tube ↦ refl
  ]);
  came = more-listed c.args.self.now.came.items c.push.new.self.items (c.args.id, c.in_ok-copy.field-0) c.in_ok-push.ensures.items;
  went = λ e i. i;
}

pub returns-in_err-push-2-clause-more : goal.returns-in_err-push-2-clause-more
returns-in_err-push-2-clause-more c = record {
  shelves = (elim [
    | Label.Ready tube ↦ refl
    | Label.Delayed tube ↦ refl
    | Label.Buried tube ↦ refl
    | Label.Held x ↦ refl
    | Label.Scheduled ↦ refl
    | Label.Reserved tube ↦ refl
  ]);
  came = more-listed c.args.self.now.came.items c.push.new.self.items (c.args.id, c.in_ok-copy.field-0) c.in_ok-push.ensures.items;
  went = still-listed c.args.self.now.went.items c.push-2.new.self.items c.in_err-push-2.ensures.items;
}

pub returns-clause-more : goal.returns-clause-more
returns-clause-more c = record {
  shelves = (elim [
    | Label.Ready tube ↦ refl
    | Label.Delayed tube ↦ refl
    | Label.Buried tube ↦ refl
    | Label.Held x ↦ refl
    | Label.Scheduled ↦ refl
    | Label.Reserved tube ↦ refl
  ]);
  came = more-listed c.args.self.now.came.items c.push.new.self.items (c.args.id, c.in_ok-copy.field-0) c.in_ok-push.ensures.items;
  went = more-listed c.args.self.now.went.items c.push-2.new.self.items (c.args.id, c.in_ok-copy-2.field-0) c.in_ok-push-2.ensures.items;
}

pub returns-clause-came : goal.returns-clause-came
returns-clause-came c =
    c.in_ok-push.ensures.items ∙ ap (λ spot. c.args.self.now.came.items ++ (c.args.id, spot) ∷ []) c.in_ok-copy.ensures

pub returns-clause-went : goal.returns-clause-went
returns-clause-went c =
    c.in_ok-push-2.ensures.items ∙ ap (λ spot. c.args.self.now.went.items ++ (c.args.id, spot) ∷ []) c.in_ok-copy-2.ensures
