use Rattle.std.proofs.Common.{refl, ap, ◌∙◌}
use Rattle.job_store.specs.States.{marked}
use Rattle.job_store.specs.Undone.{MapState}
use Rattle.job_store.specs.EntryLaws.{Rising-altered}
use Rattle.job_store.proofs.maps.Entries.{Rising-same}
use Rattle.job_store.proofs.maps.Undone.{before-set}
use Rattle.job_store.proofs.logged_jobs.LoggedJobs.set_state.Goals as goal

pub invariant_of-self-2 : goal.invariant_of-self-2
invariant_of-self-2 c = Rising-same _ _ _ _ c.in_ok-set_state.ensures.jobs (Rising-altered c.args.id (marked c.args.state c.args.mark) _ _ _ c.self.invariant)

pub returns-clause-rising : goal.returns-clause-rising
returns-clause-rising c = Rising-same _ _ _ _ c.in_ok-set_state.ensures.jobs (Rising-altered c.args.id (marked c.args.state c.args.mark) _ _ _ c.self.invariant)

pub returns-clause-before : goal.returns-clause-before
returns-clause-before c =
    before-set c.self.inside.is_trial c.args.id _ _
    (marked c.args.state c.args.mark) c.self.inside.log.items c.set_state.new.log.items c.self.inside.jobs.entries
    c.set_state.new.jobs.entries (λ job. refl) c.self.invariant c.in_ok-set_state.ensures.log c.in_ok-set_state.ensures.jobs ∙
    ap (λ (m : MapState). m.before) c.self.view_is
