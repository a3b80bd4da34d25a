use Rattle.std.proofs.Common.{subst, arith}
use Rattle.agreement.specs.Chosen.{IsChosen}
use Rattle.world.proofs.standing.Voters.{run_ended, run_next, count_next}
use Rattle.world.proofs.world.World.all_chosen.Goals as goal

pub returns-in-None : goal.returns-in-None
returns-in-None g c =
    let count = c.loop-slot.invariant.count in
    run_ended c.args.self.now.cluster 1 c.loop-slot.chosen.items c.loop-slot.invariant.run
    (λ d chosen. c.in-None.ensures.none d (subst (λ t. IsChosen c.args.self.now.cluster t d) (omega arith) chosen))

pub loop-slot-preserved : goal.loop-slot-preserved
loop-slot-preserved g c = record {
  run = run_next c.args.self.now.cluster c.loop-slot.chosen.items _ c.in-Some.command.now c.in_ok-copy-in-Some.field-0
      c.in_ok-copy-in-Some.ensures c.in_ok-push-in-Some.ensures.items 1 c.loop-slot.slot c.loop-slot.invariant.count
      c.loop-slot.invariant.run c.in-Some.ensures.some;
  count = count_next c.args.self.now.cluster c.loop-slot.chosen.items _ c.in-Some.command.now
      c.in_ok-copy-in-Some.field-0 c.in_ok-copy-in-Some.ensures c.in_ok-push-in-Some.ensures.items 1 c.loop-slot.slot
      c.loop-slot.invariant.count;
  within = let low = c.in-Some.ensures.within in omega arith;
}
