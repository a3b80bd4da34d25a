use Rattle.std.proofs.Common.{sym, subst, take}
use Rattle.agreement.specs.OneOrder.{GoesOnFrom}
use Rattle.agreement.specs.Runs.{at_once}
use Rattle.agreement.proofs.every.Events.{later_by}
use Rattle.world.proofs.steps.Events.{run_more, refused_at}
use Rattle.world.proofs.world.World.run.Goals as goal

pub loop-index-init : goal.loop-index-init
loop-index-init g c = record { led = at_once; stays = λ s x h. h }

pub returns-in-Err-clause-refused : goal.returns-in-Err-clause-refused
returns-in-Err-clause-refused g c =
    refused_at g.O.Op.PartialEq.eq c.loop-index.self c.take_copy.new.self c.args.events.now c.loop-index.index
    c.index-events-index.result c.in-Err.refused c.loop-index-test.true c.index-events-index.is c.in-Err.ensures.err
    c.in-Err.ensures.refused

pub loop-index-preserved : goal.loop-index-preserved
loop-index-preserved g c = record {
  led = run_more g.O.Object.rules c.args.self.now c.loop-index.self c.take_copy.new.self c.args.events.now
      c.loop-index.index c.index-events-index.result c.loop-index-test.true c.index-events-index.is
      c.loop-index.invariant.led c.in_default.ensures.ok;
  stays = λ s x h. c.in_default.ensures.continues.stays s x (c.loop-index.invariant.stays s x h);
}

pub returns-in-Err-clause-continues : goal.returns-in-Err-clause-continues
returns-in-Err-clause-continues g c = record {
  stays = λ s x h. c.in-Err.ensures.continues.stays s x (c.loop-index.invariant.stays s x h);
  later = subst (GoesOnFrom c.args.self.now) (sym c.in-Err.ensures.err)
      (later_by c.ballot_laws.ensures g.O.Object.rules _ _ c.self.view_is c.self.invariant.world
      (take c.loop-index.index c.args.events.now) c.loop-index.self c.loop-index.invariant.led);
}

pub returns-clause-continues : goal.returns-clause-continues
returns-clause-continues g c = record {
  stays = c.loop-index.invariant.stays;
  later = later_by c.ballot_laws.ensures g.O.Object.rules _ _ c.self.view_is c.self.invariant.world
      (take c.loop-index.index c.args.events.now) c.loop-index.self c.loop-index.invariant.led;
}
