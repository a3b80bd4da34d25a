use Rattle.job_store.specs.declared.label.Label.{Label}
use Rattle.job_store.proofs.shelves.Shelves.new.Goals as goal

pub returns-clause-shelves : goal.returns-clause-shelves
returns-clause-shelves c = elim [
  | Label.Ready tube ↦ c.new.ensures tube.now
  | Label.Delayed tube ↦ c.new-2.ensures tube.now
  | Label.Buried tube ↦ c.new-3.ensures tube.now
  | Label.Held x ↦ c.new-4.ensures x
  | Label.Scheduled ↦ c.new-5.ensures
  | Label.Reserved tube ↦ c.new-6.ensures tube.now
]
