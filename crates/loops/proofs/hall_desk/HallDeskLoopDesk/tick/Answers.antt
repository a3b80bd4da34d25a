use Rattle.hall.specs.Refusals.{tick_refusal}
use Rattle.loops.specs.LeadingLaws.{hall_goes}
use Rattle.loops.proofs.hall_desk.HallDeskLoopDesk.tick.Goals as goal

pub returns-clause-goes_on : goal.returns-clause-goes_on
returns-clause-goes_on g c =
    let h = c.args.self.now.hall in
    let does = c.tick.ensures in
    hall_goes h c.tick.new.self
    (c.halls_go_on.ensures.ticks h c.tick.new.self c.args.second c.args.node (tick_refusal h c.args.second c.args.node) c.tick.result
    does.ok does.begun does.refused)
