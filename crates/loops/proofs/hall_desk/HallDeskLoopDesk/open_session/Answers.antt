use Rattle.loops.specs.LeadingLaws.{hall_goes}
use Rattle.loops.proofs.hall_desk.HallDeskLoopDesk.open_session.Goals as goal

pub returns-clause-goes_on : goal.returns-clause-goes_on
returns-clause-goes_on g c = hall_goes c.args.self.now.hall c.open_session.new.self
    (c.halls_go_on.ensures.opens c.args.self.now.hall c.open_session.new.self c.open_session.result c.open_session.ensures.ok c.open_session.ensures.err)
