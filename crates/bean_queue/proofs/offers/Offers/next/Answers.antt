use Rattle.std.proofs.Common.{sym}
use Rattle.std.specs.Map.{keys_of}
use Rattle.job_store.specs.LookUps.{pri_of_job}
use Rattle.job_store.proofs.least.Least.{least-only, least-nothing}
use Rattle.bean_queue.specs.Woken.{has_taker}
use Rattle.bean_queue.specs.Offers.{is_takable}
use Rattle.bean_queue.proofs.best.Offering.{first-takable, none-takable, still-offers}
use Rattle.bean_queue.proofs.offers.Offers.next.Goals as goal

pub returns-in-Some-takable_at-clause-next : goal.returns-in-Some-takable_at-clause-next
returns-in-Some-takable_at-clause-next g c =
    let takes = has_taker (keys_of c.args.pauses.now.now.pauses) c.args.sessions.now.now in
    let jobs = g.M.JobMap.entries c.args.jobs.now in
    sym (least-only (is_takable takes) pri_of_job jobs _ _ (c.in-Some.place.1, c.in-Some-takable_at.job.now) c.by_id.ensures.rising
    (first-takable takes jobs _ c.by_id.ensures.rising c.offers.self c.offers.invariant.offers c.in-Some.place c.in-Some-takable_at.job.now
    c.in-Some.ensures.offered c.in-Some.ensures.least c.in-Some-takable_at.ensures.job))

pub offers-preserved : goal.offers-preserved
offers-preserved g c = record {
  offers =
      still-offers (has_taker (keys_of c.args.pauses.now.now.pauses) c.args.sessions.now.now) (g.M.JobMap.entries c.args.jobs.now) _
      c.by_id.ensures.rising c.offers.self c.offers.invariant.offers c.withdraw.new.self c.in-Some.place
      c.in_default-takable_at.ensures.job c.withdraw.ensures.withdrawn;
  fronts = c.takable_at.ensures.fronts;
}

pub returns-clause-next : goal.returns-clause-next
returns-clause-next g c =
    let takes = has_taker (keys_of c.args.pauses.now.now.pauses) c.args.sessions.now.now in
    let jobs = g.M.JobMap.entries c.args.jobs.now in
    least-nothing (is_takable takes) pri_of_job jobs
    (none-takable takes jobs _ c.by_id.ensures.rising c.offers.self c.offers.invariant.offers c.in_default.ensures.none)
