use Rattle.job_store.proofs.shelving.Shelving.{ArePut}
use Rattle.job_store.proofs.shelves.Shelves.of.Given as goal

abbrev pub invariant-loop-id : goal.invariant-loop-id
invariant-loop-id l = ArePut l.shelves l.id-iterator l.jobs.entries
