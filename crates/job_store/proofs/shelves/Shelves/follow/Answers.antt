use Rattle.std.proofs.Common.{◌≡◌, ℕ, List, false, true, ap, sym, ◌∙◌}
use Rattle.job_store.specs.declared.spot.Spot.{Spot}
use Rattle.job_store.proofs.shelving.Shelving.{held-settled, held-listed}
use Rattle.job_store.proofs.shelves.Shelves.follow.Goals as goal

pub returns-then-is_trial : goal.returns-then-is_trial
returns-then-is_trial c = record {
  held = held-settled c.args.self.now c.settle.new.self c.args.jobs.now.entries c.settle.ensures c.requires;
  settled = λ on. c.settle.ensures;
  swept = λ off. let both : true ≡ false = sym c.if-is_trial.true ∙ off in cc;
}

pub returns-else-is_trial : goal.returns-else-is_trial
returns-else-is_trial c = record {
  held = held-listed c.sweep.new.self c.args.jobs.now.entries _ _
      (ap (λ (x : List (ℕ × Spot) × List (ℕ × Spot)). x.1) c.sweep.ensures.listed) c.sweep.ensures.held;
  settled = λ on. let both : true ≡ false = sym on ∙ c.if-is_trial.false in cc;
  swept = λ off. c.sweep.ensures.listed;
}
