use Rattle.loops.specs.LeadingLaws.{hall_goes}
use Rattle.loops.proofs.hall_desk.HallDeskLoopDesk.take_turn.Goals as goal

pub returns-clause-goes_on : goal.returns-clause-goes_on
returns-clause-goes_on g c = hall_goes c.args.self.now.hall c.take_turn.new.nodes c.take_turn.ensures.goes_on.goes_on
