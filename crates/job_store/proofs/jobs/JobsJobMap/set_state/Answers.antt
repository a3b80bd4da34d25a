use Rattle.job_store.proofs.shelving.Following.{held-moved, kept-followed}
use Rattle.job_store.proofs.jobs.JobsJobMap.set_state.Goals as goal

pub follow-requires : goal.follow-requires
follow-requires c = held-moved c.self.invariant c.move_to_state-done.ensures.moved

pub invariant_of-self : goal.invariant_of-self
invariant_of-self c = kept-followed c.self.invariant c.move_to_state-done.ensures.moved c.follow.ensures
