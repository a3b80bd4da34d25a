use Rattle.job_store.proofs.shelving.Following.{kept-begun}
use Rattle.job_store.proofs.jobs.JobsJobMap.begin.Goals as goal

pub invariant_of-self : goal.invariant_of-self
invariant_of-self c =
    kept-begun c.sweep.new.shelves c.self.inside.jobs c.begin.new.self c.begin.ensures.jobs c.begin.ensures.before c.sweep.ensures
