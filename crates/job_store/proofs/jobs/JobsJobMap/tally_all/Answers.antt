use Rattle.std.proofs.Common.{ℕ, List, subst, sym}
use Rattle.job_store.specs.declared.job.Job.{Job}
use Rattle.job_store.specs.Shelves.{HoldJobs}
use Rattle.job_store.proofs.jobs.JobsJobMap.tally_all.Goals as goal

pub tally_all-requires : goal.tally_all-requires
tally_all-requires c =
    let s = c.self.inside.shelves in
    subst (λ (jobs : List (ℕ × Job)). HoldJobs s jobs s.went.items) (sym c.by_id.ensures.jobs) c.self.invariant.held
