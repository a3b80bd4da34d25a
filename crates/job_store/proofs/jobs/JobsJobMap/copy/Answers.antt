use Rattle.std.proofs.Common.{subst}
use Rattle.job_store.specs.Shelves.{AreSwept}
use Rattle.job_store.proofs.shelving.Following.{kept-swept}
use Rattle.job_store.proofs.jobs.JobsJobMap.copy.Goals as goal

pub invariant_of-result : goal.invariant_of-result
invariant_of-result c =
    kept-swept c.in_ok-shelves.shelves c.in_ok-jobs.jobs c.in_ok-jobs.ensures.before
    (subst (AreSwept c.in_ok-shelves.shelves) c.by_id.ensures.jobs c.in_ok-shelves.ensures)
