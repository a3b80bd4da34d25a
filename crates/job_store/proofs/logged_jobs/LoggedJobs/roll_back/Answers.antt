use Rattle.job_store.proofs.maps.Entries.{Rising-same}
use Rattle.job_store.proofs.maps.Undone.{Rising-all_undone}
use Rattle.job_store.proofs.logged_jobs.LoggedJobs.roll_back.Goals as goal

pub invariant_of-self : goal.invariant_of-self
invariant_of-self c = Rising-same _ _ _ _ c.undo_all.ensures.jobs (Rising-all_undone _ _ c.self.inside.log.items _ c.self.invariant)
