use Rattle.std.proofs.Common.{◌<◌, subst}
use Rattle.forgetting_hall.specs.Handing.{second_of}
use Rattle.forgetting_hall.specs.LeadingLaws.{turns_stay, turns_further}
use Rattle.loops.proofs.Keeping.{first_within, next_within}
use Rattle.loops.proofs.steps.tick_to.Goals as goal

pub loop-init : goal.loop-init
loop-init g c = (turns_stay g.O.Object.rules c.args.hall.now, first_within (second_of c.args.hall.now) c.args.second)

pub loop-preserved : goal.loop-preserved
loop-preserved g c = (
  turns_further g.O.Object.rules c.args.hall.now c.loop.hall c.tick.new.hall c.loop.invariant.0 c.tick.ensures.goes_on,
  next_within (second_of c.args.hall.now) c.args.second (second_of c.loop.hall) (second_of c.tick.new.hall)
      (subst (λ n. n < c.args.second) c.last_second.ensures c.if-last_second-second.false) c.tick.ensures.next,
)
