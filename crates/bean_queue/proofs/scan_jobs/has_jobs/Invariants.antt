use Rattle.std.proofs.Common.{◌≡◌}
use Rattle.job_store.specs.LookUps.{has_jobs}
use Rattle.bean_queue.proofs.scan_jobs.has_jobs.Given as goal

abbrev pub invariant-loop-stored : goal.invariant-loop-stored
invariant-loop-stored l = has_jobs l.tube l.stored-iterator ≡ has_jobs l.tube l.jobs.entries
