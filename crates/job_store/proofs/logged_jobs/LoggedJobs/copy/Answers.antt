use Rattle.job_store.proofs.maps.Entries.{Rising-same}
use Rattle.job_store.proofs.logged_jobs.LoggedJobs.copy.Goals as goal

pub of-requires : goal.of-requires
of-requires c = Rising-same _ _ _ _ c.in_ok-jobs.ensures c.self.invariant
