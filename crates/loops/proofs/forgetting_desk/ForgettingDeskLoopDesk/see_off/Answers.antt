use Rattle.loops.specs.LeadingLaws.{lean_goes}
use Rattle.loops.proofs.forgetting_desk.ForgettingDeskLoopDesk.see_off.Goals as goal

pub returns-clause-goes_on : goal.returns-clause-goes_on
returns-clause-goes_on g c = lean_goes g.O.Object.rules c.args.self.now.hall c.give_back.new.self.hall c.give_back.ensures.goes_on
