use Rattle.loops.specs.LeadingLaws.{lean_goes}
use Rattle.loops.proofs.forgetting_desk.ForgettingDeskLoopDesk.take_placed.Goals as goal

pub returns-clause-goes_on : goal.returns-clause-goes_on
returns-clause-goes_on g c =
    lean_goes g.O.Object.rules c.args.self.now.hall c.take_effects-placed.new.self.hall c.take_effects-placed.ensures.goes_on
