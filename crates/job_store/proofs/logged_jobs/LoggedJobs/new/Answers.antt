use Rattle.std.proofs.Common.{[], arith}
use Rattle.job_store.proofs.maps.Entries.{Rising-same}
use Rattle.job_store.proofs.logged_jobs.LoggedJobs.new.Goals as goal

pub of-requires : goal.of-requires
of-requires c = Rising-same _ _ _ [] c.new.ensures.empty (omega arith)
