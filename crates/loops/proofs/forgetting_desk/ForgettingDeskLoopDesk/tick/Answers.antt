use Rattle.forgetting_hall.specs.LeadingLaws.{leads_trans}
use Rattle.loops.proofs.Keeping.{seen_goes}
use Rattle.loops.proofs.forgetting_desk.ForgettingDeskLoopDesk.tick.Goals as goal

pub returns-clause-goes_on : goal.returns-clause-goes_on
returns-clause-goes_on g c = seen_goes g.O.Object.rules _ c.args.self.now c.tick_to.new.hall c.self.view_is
    (leads_trans g.O.Object.rules c.self.inside.hall c.forget.new.hall c.tick_to.new.hall c.forget.ensures.goes_on.leads c.tick_to.ensures.goes_on.leads)
