use Rattle.std.proofs.Common.{◌≡◌, ◌∙◌, true, inl, refl, sym, true≢false}
use Rattle.bean_queue.proofs.tubes.Settled.{settled-step, settled-end}
use Rattle.bean_queue.proofs.tubes.Turning.{there-step, there-end}
use Rattle.bean_queue.proofs.logic.Logic.settle_all.Goals as goal
use Rattle.bean_queue.proofs.logic.Logic.settle_all.Goals.{then-there, else-there}

pub loop-tube-init : goal.loop-tube-init
loop-tube-init g c = (refl, λ so t i. inl i)

pub loop-tube-preserved : goal.loop-tube-preserved
loop-tube-preserved g c = (
  settled-step c.args.tubes.now c.loop-tube.tube-index c.tube-item.result c.loop-tube.self.now c.settle-one.new.self.now c.loop-tube-test.true
      c.tube-item.is c.settle-one.ensures.counts ∙ c.loop-tube.invariant.0,
  there-step c.args.tubes.now c.loop-tube.tube-index c.tube-item.result c.loop-tube.self.now c.settle-one.new.self.now
      c.loop-tube.there c.settle-one.result c.if-there.there c.loop-tube-test.true c.tube-item.is c.settle-one.ensures.counts c.settle-one.ensures.there
      (elim c.if-there.branch as (λ w. c.if-there.there ≡ true → (c.loop-tube.there ≡ true) × (c.settle-one.result ≡ true)) [
        | then-there w ↦ λ so. (w.if-there.true, sym w.there-is ∙ so)
        | else-there w ↦ λ so. absurd (true≢false (sym so ∙ w.there-is ∙ w.if-there.false))
      ])
      c.loop-tube.invariant.1,
)

pub returns-clause-counts : goal.returns-clause-counts
returns-clause-counts g c = settled-end c.args.tubes.now c.loop-tube.tube-index c.loop-tube.self.now c.loop-tube-test.false ∙ c.loop-tube.invariant.0

pub returns-clause-there : goal.returns-clause-there
returns-clause-there g c =
    there-end c.args.tubes.now c.loop-tube.tube-index c.loop-tube.self.now c.loop-tube.there c.loop-tube-test.false c.loop-tube.invariant.1
