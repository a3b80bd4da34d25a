use Rattle.std.proofs.Common.{◌≡◌, rules, refl}
use Rattle.job_store.specs.declared.label.Label.{Label}
use Rattle.job_store.proofs.shelving.Shelving.{held-back}
use Rattle.job_store.proofs.shelves.Shelves.go_back.Goals as goal

pub sweep-requires : goal.sweep-requires
sweep-requires c =
    let came : c.swap.new.y.items ≡ c.args.self.now.came.items = search rules in
    held-back c.args.self.now c.reach_all.new.self (record c.reach_all.new.self { came = c.swap.new.x; went = c.swap.new.y })
    c.args.jobs.now.entries c.swap.new.y.items c.requires.rising c.requires.back c.reach_all.ensures.places
    c.reach_all.ensures.ahead c.reach_all.ensures.reached
    (elim [
      | Label.Ready tube ↦ refl
      | Label.Delayed tube ↦ refl
      | Label.Buried tube ↦ refl
      | Label.Held x ↦ refl
      | Label.Scheduled ↦ refl
      | Label.Reserved tube ↦ refl
    ])
    came
