use Rattle.job_store.proofs.shelving.Following.{kept-none}
use Rattle.job_store.proofs.jobs.JobsJobMap.new.Goals as goal

pub invariant_of-result : goal.invariant_of-result
invariant_of-result c = kept-none c.new-2.result c.new.result c.new.ensures.jobs c.new.ensures.before c.new-2.ensures.shelves c.new-2.ensures.listed
