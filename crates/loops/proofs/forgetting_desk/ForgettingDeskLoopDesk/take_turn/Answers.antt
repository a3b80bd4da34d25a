use Rattle.loops.proofs.Keeping.{seen_goes}
use Rattle.loops.proofs.forgetting_desk.ForgettingDeskLoopDesk.take_turn.Goals as goal

pub returns-clause-goes_on : goal.returns-clause-goes_on
returns-clause-goes_on g c = seen_goes g.O.Object.rules _ c.args.self.now c.take_turn.new.nodes c.self.view_is c.take_turn.ensures.goes_on.leads
