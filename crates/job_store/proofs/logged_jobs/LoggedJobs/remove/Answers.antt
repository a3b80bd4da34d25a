use Rattle.std.proofs.Common.{ap, ◌∙◌}
use Rattle.job_store.specs.Entries.{without}
use Rattle.job_store.specs.Undone.{MapState}
use Rattle.job_store.specs.EntryLaws.{Rising-without}
use Rattle.job_store.proofs.maps.Entries.{remove_entry-without, Rising-same}
use Rattle.job_store.proofs.logged_jobs.LoggedJobs.remove.Goals as goal

pub invariant_of-self : goal.invariant_of-self
invariant_of-self c =
    Rising-same _ _ _ _ (c.remove.ensures.entries ∙ remove_entry-without c.args.id _ _ _ c.self.invariant) (Rising-without c.args.id _ _ _ c.self.invariant)

pub returns-clause-jobs : goal.returns-clause-jobs
returns-clause-jobs c =
    c.remove.ensures.entries ∙ remove_entry-without c.args.id _ _ _ c.self.invariant ∙
    ap (without c.args.id) (ap (λ (m : MapState). m.jobs) c.self.view_is ∙ c.commit.ensures.jobs)
