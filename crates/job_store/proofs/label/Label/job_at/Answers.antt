use Rattle.std.proofs.Common.{◌≡◌, Some, None, false, ap, sym, subst, ◌∙◌}
use Rattle.job_store.specs.declared.job.Job.{Job}
use Rattle.job_store.specs.Shelves.{belongs_at}
use Rattle.job_store.proofs.shelving.Places.{at-id, none-at-id}
use Rattle.job_store.proofs.label.Label.job_at.Goals as goal
use Rattle.job_store.proofs.label.Label.job_at.Goals.{in_default-via-in-Some+else-fits_at, in_default-via-in_default}

pub returns-in-Some-clause-found : goal.returns-in-Some-clause-found
returns-in-Some-clause-found c =
    at-id c.args.self.now c.args.number c.args.id c.as_job-in-Some.result.now c.args.jobs.now.entries
    (ap (λ (j : Job). Some j) c.as_job-in-Some.ensures ∙ c.in-Some.ensures.value)
    (ap (λ (j : Job). belongs_at c.args.self.now (c.args.number, c.args.id) (c.args.id, j))
    (c.as_job-in-Some.ensures ∙ sym c.as_job.ensures) ∙
    sym (c.fits_at.ensures c.args.id) ∙ c.if-fits_at.true)

pub returns-in_default-clause-none : goal.returns-in_default-clause-none
returns-in_default-clause-none c =
    none-at-id c.args.self.now c.args.number c.args.id _ _ c.args.jobs.now.entries c.requires
    (λ job there.
    elim c.in_default.branch as (λ b. belongs_at c.args.self.now (c.args.number, c.args.id) (c.args.id, job) ≡ false) [
      | in_default-via-in-Some+else-fits_at w ↦
          let both : Some w.in-Some.stored.now ≡ Some job = w.in-Some.ensures.value ∙ there in
          let same : w.in-Some.stored.now ≡ job = cc in
          subst (λ (j : Job). belongs_at c.args.self.now (c.args.number, c.args.id) (c.args.id, j) ≡ false) same
          (ap (λ (j : Job). belongs_at c.args.self.now (c.args.number, c.args.id) (c.args.id, j)) (sym w.as_job.ensures) ∙
          sym (w.fits_at.ensures c.args.id) ∙ w.if-fits_at.false)
      | in_default-via-in_default w ↦ let both : None ≡ Some job = w.in_default.ensures.value ∙ there in cc
    ])
