use Rattle.std.proofs.Common.{ℕ, Bool, [], ◌∷◌, IfSome, IfNone, subst, sym, ap, ◌∙◌}
use Rattle.job_store.specs.declared.job.Job.{Job}
use Rattle.job_store.specs.declared.label.Label.{Label}
use Rattle.job_store.specs.Undone.{MapState}
use Rattle.job_store.specs.Least.{IsLeast, NonePasses, least}
use Rattle.job_store.specs.LookUps.{ready_in, pri_of_job}
use Rattle.job_store.proofs.readiness.Readiness.{ready-test}
use Rattle.job_store.proofs.shelving.Following.{looks-up}
use Rattle.job_store.proofs.jobs.JobsJobMap.first_ready.Goals as goal

pub first-requires : goal.first-requires
first-requires c = looks-up (Label.Ready c.args.tube) c.by_id.ensures.jobs c.self.invariant

pub returns-clause-job : goal.returns-clause-job
returns-clause-job c =
    c.first.ensures.job ∙
    ap (λ (test : ℕ × Job → Bool). least test pri_of_job c.by_id.result.now.entries) (sym (ready-test c.args.tube.now)) ∙
    ap (least (ready_in (c.args.tube.now ∷ [])) pri_of_job) (c.by_id.ensures.jobs ∙ ap (λ (m : MapState). m.jobs) c.self.view_is)

pub returns-clause-found : goal.returns-clause-found
returns-clause-found c =
    subst (λ jobs. IfSome c.first.result
    (λ e. IsLeast (ready_in (c.args.tube.now ∷ [])) pri_of_job jobs (e.0, e.1.now)))
    (c.by_id.ensures.jobs ∙ ap (λ (m : MapState). m.jobs) c.self.view_is)
    (subst (λ (test : ℕ × Job → Bool). IfSome c.first.result
    (λ e. IsLeast test pri_of_job c.by_id.result.now.entries (e.0, e.1.now)))
    (sym (ready-test c.args.tube.now)) c.first.ensures.found)

pub returns-clause-none : goal.returns-clause-none
returns-clause-none c =
    subst (λ jobs. IfNone c.first.result (NonePasses (ready_in (c.args.tube.now ∷ [])) jobs))
    (c.by_id.ensures.jobs ∙ ap (λ (m : MapState). m.jobs) c.self.view_is)
    (subst (λ (test : ℕ × Job → Bool). IfNone c.first.result (NonePasses test c.by_id.result.now.entries))
    (sym (ready-test c.args.tube.now)) c.first.ensures.none)
