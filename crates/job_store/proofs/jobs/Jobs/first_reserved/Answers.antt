use Rattle.job_store.specs.declared.label.Label.{Label}
use Rattle.job_store.proofs.shelving.Following.{looks-up}
use Rattle.job_store.proofs.jobs.Jobs.first_reserved.Goals as goal

pub first-requires : goal.first-requires
first-requires c = looks-up (Label.Reserved c.args.tube) c.by_id.ensures.jobs c.self.invariant
