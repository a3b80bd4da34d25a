use Rattle.std.proofs.Common.{◌≡◌, ◌++◌}
use Rattle.job_store.proofs.logged_jobs.copy_of.Given as goal

abbrev pub invariant-loop-id : goal.invariant-loop-id
invariant-loop-id l = l.copy.entries ++ l.id-iterator ≡ l.jobs.entries
