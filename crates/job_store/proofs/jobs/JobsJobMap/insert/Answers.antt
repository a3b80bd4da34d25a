use Rattle.job_store.proofs.shelving.Following.{held-moved, kept-followed}
use Rattle.job_store.proofs.jobs.JobsJobMap.insert.Goals as goal

pub follow-requires : goal.follow-requires
follow-requires c = held-moved c.self.invariant c.store-done.ensures

pub invariant_of-self : goal.invariant_of-self
invariant_of-self c = kept-followed c.self.invariant c.store-done.ensures c.follow.ensures
