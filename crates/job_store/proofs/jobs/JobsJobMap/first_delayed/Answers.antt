use Rattle.job_store.specs.declared.label.Label.{Label}
use Rattle.job_store.proofs.shelving.Following.{looks-up}
use Rattle.job_store.proofs.jobs.JobsJobMap.first_delayed.Goals as goal

pub first-requires : goal.first-requires
first-requires c = looks-up (Label.Delayed c.args.tube) c.by_id.ensures.jobs c.self.invariant
