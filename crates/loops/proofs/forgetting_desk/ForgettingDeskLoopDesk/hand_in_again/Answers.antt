use Rattle.loops.proofs.Keeping.{seen_goes}
use Rattle.loops.proofs.forgetting_desk.ForgettingDeskLoopDesk.hand_in_again.Goals as goal

pub returns-clause-goes_on : goal.returns-clause-goes_on
returns-clause-goes_on g c = seen_goes g.O.Object.rules _ c.args.self.now c.resubmit.new.hall c.self.view_is c.resubmit.ensures.goes_on.leads
