use Rattle.std.proofs.Common.{◌≡◌, ◌∙◌, ◌+◌, [], drop, rules, sym, subst}
use Rattle.std.proofs.lemmas.List.{drop_all}
use Rattle.std.specs.Map.{keys_of}
use Rattle.object.proofs.KeyMaps.{on_err}
use Rattle.bean_queue.specs.Woken.{has_taker}
use Rattle.bean_queue.specs.Offers.{OffersToo}
use Rattle.bean_queue.proofs.best.Offering.{AreGathered, cut-tubes, gathered-one, gathered-other, gathered-all, some-takable, shown-some}
use Rattle.bean_queue.proofs.offers.offers_of.Goals.{then-has_taker+in_ok-add, else-has_taker}
use Rattle.bean_queue.proofs.offers.offers_of.Goals as goal

pub loop-tube-preserved : goal.loop-tube-preserved
loop-tube-preserved g c =
    let takes = has_taker (keys_of c.args.pauses.now.now.pauses) c.args.sessions.now.now in
    let jobs = g.M.JobMap.entries c.args.jobs.now in
    let tubes = c.args.tubes.now in
    let i = c.loop-tube.tube-index in
    let tube = c.tube-item.result in
    let cut = cut-tubes tubes i tube tube (search rules) c.tube-item.is in
    record {
      gathered =
          elim c.if-has_taker.branch [
            | then-has_taker+in_ok-add w ↦
                subst (λ offers. AreGathered offers takes jobs (drop (i + 1) tubes)) (sym w.offers-is)
                (gathered-one takes jobs c.loop-tube.offers w.add.new.self tube (drop i tubes) (drop (i + 1) tubes) cut
                (subst (OffersToo c.loop-tube.offers w.add.new.self) w.first_ready.ensures.job w.in_ok-add.ensures.ok)
                c.loop-tube.invariant.gathered)
            | else-has_taker w ↦
                subst (λ offers. AreGathered offers takes jobs (drop (i + 1) tubes)) (sym w.offers-is)
                (gathered-other takes jobs c.loop-tube.offers tube (drop i tubes) (drop (i + 1) tubes) cut
                (sym c.has_taker.ensures.taker ∙ w.if-has_taker.false) c.loop-tube.invariant.gathered)
          ];
      fronts = c.has_taker.ensures.fronts;
    }

pub returns-clause-offers : goal.returns-clause-offers
returns-clause-offers g c =
    let rest : drop c.loop-tube.tube-index c.args.tubes.now ≡ [] = drop_all c.loop-tube.tube-index c.args.tubes.now (search rules) in
    gathered-all (has_taker (keys_of c.args.pauses.now.now.pauses) c.args.sessions.now.now) (g.M.JobMap.entries c.args.jobs.now)
    c.loop-tube.offers (drop c.loop-tube.tube-index c.args.tubes.now) rest c.loop-tube.invariant.gathered

pub returns-in_err-add-clause-err : goal.returns-in_err-add-clause-err
returns-in_err-add-clause-err g c =
    on_err c.from_residual.result
    (some-takable (has_taker (keys_of c.args.pauses.now.now.pauses) c.args.sessions.now.now) (g.M.JobMap.entries c.args.jobs.now)
    c.tube-item.result _ (sym c.has_taker.ensures.taker ∙ c.if-has_taker.true) c.first_ready.ensures.job
    (shown-some (λ e. (e.0, e.1.now)) c.first_ready.result c.in_err-add.ensures.err))
