use Rattle.std.proofs.Common.{ℕ, List, subst, sym}
use Rattle.job_store.specs.declared.job.Job.{Job}
use Rattle.job_store.specs.Shelves.{HoldJobs}
use Rattle.job_store.proofs.jobs.JobsJobMap.tally_in.Goals as goal

pub tally_in-requires : goal.tally_in-requires
tally_in-requires c =
    let s = c.self.inside.shelves in
    subst (λ (jobs : List (ℕ × Job)). HoldJobs s jobs s.went.items) (sym c.by_id.ensures.jobs) c.self.invariant.held
