use Rattle.std.proofs.Common.{◌+◌}
use Rattle.hall.specs.Halls.{tick_of}
use Rattle.forgetting_hall.specs.Handing.{second_of}
use Rattle.forgetting_hall.specs.Refusing.{refusal_of_tick}
use Rattle.forgetting_hall.proofs.Asking.{tick_room}
use Rattle.loops.proofs.Keeping.{takes_tells, tick_second}
use Rattle.loops.proofs.steps.tick.Goals as goal

pub returns-clause-goes_on : goal.returns-clause-goes_on
returns-clause-goes_on g c =
    let h = c.args.hall.now in
    let command = tick_of (second_of h + 1) in
    record {
      tells = takes_tells g.O.Object.rules h c.tick.new.self c.args.node command (refusal_of_tick h c.args.node) c.tick.result
          (c.tells_in_order.ensures.submits h c.tick.new.self c.args.node command) (tick_room h c.args.node) c.tick.ensures.ok;
      leads = c.leads_on.ensures.ticks h c.tick.new.self c.args.node c.tick.result c.tick.ensures.ok;
    }

pub returns-clause-next : goal.returns-clause-next
returns-clause-next g c = tick_second g.O.Object.rules c.args.hall.now c.tick.new.self c.args.node _ c.tick.result c.tick.ensures.ok
