use Rattle.std.proofs.Common.{arith, ap, ◌∙◌}
use Rattle.job_store.specs.declared.job.Job.{Job}
use Rattle.job_store.specs.Entries.{with_value}
use Rattle.job_store.specs.Undone.{MapState}
use Rattle.job_store.proofs.maps.Entries.{inserted-rises}
use Rattle.job_store.proofs.maps.Undone.{before-put}
use Rattle.job_store.proofs.logged_jobs.LoggedJobs.insert.Goals as goal

pub invariant_of-self-then-self : goal.invariant_of-self-then-self
invariant_of-self-then-self c = inserted-rises c.args.id 0 _ _ _ _ (omega arith) (omega arith) c.self.invariant c.in_ok-put.ensures.jobs

pub returns-then-self-clause-rising : goal.returns-then-self-clause-rising
returns-then-self-clause-rising c = inserted-rises c.args.id 0 _ _ _ _ (omega arith) (omega arith) c.self.invariant c.in_ok-put.ensures.jobs

pub returns-then-self-clause-before : goal.returns-then-self-clause-before
returns-then-self-clause-before c =
    before-put c.self.inside.is_trial c.args.id _ _ c.args.job c.self.inside.log.items c.put.new.log.items
    c.self.inside.jobs.entries c.put.new.jobs.entries c.if-self.true c.self.invariant c.in_ok-put.ensures.log
    (c.in_ok-put.ensures.jobs ∙ ap (λ (j : Job). with_value c.args.id j c.self.inside.jobs.entries) c.in_ok-stored.ensures) ∙
    ap (λ (m : MapState). m.before) c.self.view_is

pub invariant_of-self-2 : goal.invariant_of-self-2
invariant_of-self-2 c = inserted-rises c.args.id 0 _ _ _ _ (omega arith) (omega arith) c.self.invariant c.in_ok-insert.ensures.entries

pub returns-clause-rising : goal.returns-clause-rising
returns-clause-rising c = inserted-rises c.args.id 0 _ _ _ _ (omega arith) (omega arith) c.self.invariant c.in_ok-insert.ensures.entries
