use Rattle.std.proofs.Common.{◌^◌, ap, subst, sym, ◌∙◌}
use Rattle.job_store.specs.declared.label.Label.{Label}
use Rattle.job_store.specs.Undone.{MapState}
use Rattle.job_store.specs.Entries.{Rising}
use Rattle.job_store.specs.Least.{IsLeast, NonePasses}
use Rattle.job_store.specs.LookUps.{due_after, due_of_job}
use Rattle.job_store.proofs.least.Least.{least-only, least-nothing}
use Rattle.job_store.proofs.shelving.Following.{due-found-after, due-later-after, due-none-after}
use Rattle.job_store.proofs.shelving.Following.{looks-up}
use Rattle.job_store.proofs.jobs.JobsJobMap.due_after.Goals as goal
use Rattle.job_store.proofs.jobs.JobsJobMap.due_after.Goals.{in_default-via-in-Some+else-is_due, in_default-via-in_default}

pub first_after-requires : goal.first_after-requires
first_after-requires c = looks-up Label.Scheduled c.by_id.ensures.jobs c.self.invariant

pub returns-in-Some-clause-found : goal.returns-in-Some-clause-found
returns-in-Some-clause-found c =
    subst (λ jobs. IsLeast (due_after c.args.second c.args.place) due_of_job jobs (c.in-Some.id, c.in-Some.job.now))
    (c.by_id.ensures.jobs ∙ ap (λ (m : MapState). m.jobs) c.self.view_is)
    (due-found-after c.args.second c.args.place c.by_id.result.now.entries
    (c.in-Some.id, c.in-Some.job.now) c.in-Some.ensures.found (sym c.is_due.ensures ∙ c.if-is_due.true))

pub returns-in-Some-clause-job : goal.returns-in-Some-clause-job
returns-in-Some-clause-job c =
    sym (least-only (due_after c.args.second c.args.place) due_of_job c.args.self.now.jobs _ _ (c.in-Some.id, c.in-Some.job.now)
    (subst (Rising 0 (2 ^ 64)) (ap (λ (m : MapState). m.jobs) c.self.view_is) c.self.invariant.held.rising) (returns-in-Some-clause-found c))

pub returns-in_default-clause-none : goal.returns-in_default-clause-none
returns-in_default-clause-none c =
    subst (NonePasses (due_after c.args.second c.args.place)) (c.by_id.ensures.jobs ∙ ap (λ (m : MapState). m.jobs) c.self.view_is)
    (elim c.in_default.branch as (λ b. NonePasses (due_after c.args.second c.args.place) c.by_id.result.now.entries) [
      | in_default-via-in-Some+else-is_due w ↦
          due-later-after c.args.second c.args.place c.by_id.result.now.entries
          (w.in-Some.id, w.in-Some.job.now) w.in-Some.ensures.found (sym w.is_due.ensures ∙ w.if-is_due.false)
      | in_default-via-in_default w ↦ due-none-after c.args.second c.args.place c.by_id.result.now.entries w.in_default.ensures.none
    ])

pub returns-in_default-clause-job : goal.returns-in_default-clause-job
returns-in_default-clause-job c =
    least-nothing (due_after c.args.second c.args.place) due_of_job c.args.self.now.jobs (returns-in_default-clause-none c)
