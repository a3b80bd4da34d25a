use Rattle.job_store.proofs.shelving.Following.{kept-ended}
use Rattle.job_store.proofs.jobs.JobsJobMap.commit.Goals as goal

pub invariant_of-self : goal.invariant_of-self
invariant_of-self c =
    kept-ended c.sweep.new.shelves c.self.inside.jobs c.commit.new.self c.commit.ensures.jobs c.commit.ensures.before c.sweep.ensures
