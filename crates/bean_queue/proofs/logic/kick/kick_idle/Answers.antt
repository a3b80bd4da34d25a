use Rattle.std.proofs.Common.{cond, ◌≡◌, ◌<◌, ◌∙◌, None, Some, refl, sym, ap, rules}
use Rattle.job_store.specs.LookUps.{first_buried, first_delayed}
use Rattle.bean_queue.proofs.kicks.Kicks.{kicking-first, kicking-more, kicking-none, kicking-end}
use Rattle.bean_queue.proofs.logic.kick.kick_idle.Goals as goal

pub returns-in_default-clause-now : goal.returns-in_default-clause-now
returns-in_default-clause-now g c =
    let none : (cond c.args.buried (first_buried c.args.tube.now) (first_delayed c.args.tube.now)) c.loop-count.jobs.now
    ≡ None = ap (cond c.args.buried (first_buried c.args.tube.now) (first_delayed c.args.tube.now))
    (sym c.map.ensures.jobs) ∙ sym c.in_default.ensures in
    (kicking-none (cond c.args.buried (first_buried c.args.tube.now) (first_delayed c.args.tube.now)) c.args.bound
    c.loop-count.count _ _ none c.loop-count.invariant.0).0

pub returns-in_default-clause-count : goal.returns-in_default-clause-count
returns-in_default-clause-count g c =
    let none : (cond c.args.buried (first_buried c.args.tube.now) (first_delayed c.args.tube.now)) c.loop-count.jobs.now
    ≡ None = ap (cond c.args.buried (first_buried c.args.tube.now) (first_delayed c.args.tube.now))
    (sym c.map.ensures.jobs) ∙ sym c.in_default.ensures in
    c.from.ensures ∙ (kicking-none
    (cond c.args.buried (first_buried c.args.tube.now) (first_delayed c.args.tube.now)) c.args.bound
    c.loop-count.count _ _ none c.loop-count.invariant.0).1

pub loop-count-init : goal.loop-count-init
loop-count-init g c = (kicking-first (cond c.args.buried (first_buried c.args.tube.now) (first_delayed c.args.tube.now)) c.args.bound c.args.jobs.now.now, refl)

pub loop-count-preserved : goal.loop-count-preserved
loop-count-preserved g c =
    let below : c.loop-count.count < c.args.bound = search rules in
    let some : (cond c.args.buried (first_buried c.args.tube.now) (first_delayed c.args.tube.now)) c.loop-count.jobs.now
    ≡ Some (c.in-Some.id, c.in-Some.field-0-1.now) =
    ap (cond c.args.buried (first_buried c.args.tube.now) (first_delayed c.args.tube.now))
    (sym c.map.ensures.jobs) ∙ sym c.in-Some.ensures in (
      kicking-more (cond c.args.buried (first_buried c.args.tube.now) (first_delayed c.args.tube.now)) c.args.bound
          c.loop-count.count _ _ _ (c.in-Some.id, c.in-Some.field-0-1.now) below some c.in_ok-set_state.ensures.now
          c.loop-count.invariant.0,
      c.set_state.ensures.before ∙ c.loop-count.invariant.1,
    )

pub returns-clause-now : goal.returns-clause-now
returns-clause-now g c =
    let all : c.loop-count.count ≡ c.args.bound = search rules in
    (kicking-end (cond c.args.buried (first_buried c.args.tube.now) (first_delayed c.args.tube.now)) c.args.bound
    c.loop-count.count _ _ all c.loop-count.invariant.0).0

pub returns-clause-count : goal.returns-clause-count
returns-clause-count g c =
    let all : c.loop-count.count ≡ c.args.bound = search rules in
    c.from-2.ensures ∙ (kicking-end
    (cond c.args.buried (first_buried c.args.tube.now) (first_delayed c.args.tube.now)) c.args.bound
    c.loop-count.count _ _ all c.loop-count.invariant.0).1
