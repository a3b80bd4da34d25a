use Rattle.std.proofs.Common.{◌≡◌, ◌⊎◌, ◌∙◌, true, ap, inl, inr, sym, true≢false}
use Rattle.std.proofs.lemmas.Result.{on_ok_weaker}
use Rattle.object.specs.Lists.{In}
use Rattle.job_store.specs.LookUps.{has_jobs}
use Rattle.job_store.proofs.jobs.add_filled.Goals as goal

pub returns-then-not-has_jobs-clause-there : goal.returns-then-not-has_jobs-clause-there
returns-then-not-has_jobs-clause-there c = λ has. absurd (true≢false (sym has ∙ sym c.has_jobs.ensures ∙ c.if-not-has_jobs.true))

pub returns-clause-added : goal.returns-clause-added
returns-clause-added c = record {
  kept = c.add_name.ensures.kept;
  only = λ t i.
      elim (c.add_name.ensures.only t i) as (λ v. In t c.args.names.now.keys ⊎ (has_jobs t c.args.jobs.now.jobs ≡ true)) [
        | inl was ↦ inl was
        | inr same ↦ inr (ap (λ u. has_jobs u c.args.jobs.now.jobs) same ∙ sym c.has_jobs.ensures ∙ c.if-not-has_jobs.false)
      ];
}

pub returns-clause-there : goal.returns-clause-there
returns-clause-there c = on_ok_weaker c.add_name.result (λ there has. there) c.add_name.ensures.there
