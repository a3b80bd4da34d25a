use Rattle.loops.specs.LeadingLaws.{hall_goes}
use Rattle.loops.proofs.hall_desk.HallDeskLoopDesk.hand_in_again.Goals as goal

pub returns-clause-goes_on : goal.returns-clause-goes_on
returns-clause-goes_on g c =
    let h = c.args.self.now.hall in
    let does = c.resubmit.ensures in
    hall_goes h c.resubmit.new.self
    (c.halls_go_on.ensures.resubmits h c.resubmit.new.self c.args.ticket.now c.args.node _ c.resubmit.result does.ok does.past does.refused)
