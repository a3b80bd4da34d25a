use Rattle.std.proofs.Common.{◌^◌, ap, sym, subst, ◌∙◌}
use Rattle.object.specs.Lists.{In}
use Rattle.job_store.specs.Entries.{Rising}
use Rattle.job_store.specs.EntryLaws.{Rising-without, without-in}
use Rattle.job_store.specs.Undone.{MapState}
use Rattle.job_store.proofs.maps.Members.{without-lacks}
use Rattle.job_store.proofs.shelving.Following.{kept-removed, kept-absent}
use Rattle.job_store.proofs.jobs.JobsJobMap.remove.Goals as goal

pub invariant_of-self : goal.invariant_of-self
invariant_of-self c =
    kept-absent c.self.inside.shelves c.self.inside.jobs c.remove.new.self c.args.id c.self.invariant
    (ap (λ (m : MapState). m.before) c.self.view_is ∙ c.commit.ensures.before)
    c.remove.ensures.before c.remove.ensures.jobs (sym c.in_err-job.ensures.job)

pub invariant_of-self-2 : goal.invariant_of-self-2
invariant_of-self-2 c =
    kept-removed c.self.inside.shelves c.clear_everywhere.new.self c.self.inside.jobs c.remove.new.self c.args.id c.in_ok-job.job c.self.invariant
    (ap (λ (m : MapState). m.before) c.self.view_is ∙ c.commit.ensures.before)
    c.remove.ensures.before
    (subst (Rising 0 (2 ^ 64)) (sym c.remove.ensures.jobs) (Rising-without c.args.id 0 (2 ^ 64) c.self.inside.jobs.jobs c.self.invariant.held.rising))
    c.remove.ensures.jobs (sym c.in_ok-job.ensures.job)
    (c.clear_everywhere.ensures.taken c.remove.new.self.jobs
    (λ e i. c.self.invariant.held.ahead e (without-in c.args.id c.self.inside.jobs.jobs e (subst (In e) c.remove.ensures.jobs i)))
    (λ job i. without-lacks c.args.id job c.self.inside.jobs.jobs (subst (In (c.args.id, job)) c.remove.ensures.jobs i)))
    (λ l p i b. absurd (c.clear_everywhere.ensures.gone l p i b))
