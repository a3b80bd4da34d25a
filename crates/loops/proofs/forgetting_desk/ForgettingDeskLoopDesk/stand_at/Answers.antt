use Rattle.loops.proofs.Keeping.{seen_goes}
use Rattle.std.proofs.Common.{refl}
use Rattle.forgetting_hall.specs.LeadingLaws.{leads_stay}
use Rattle.loops.proofs.forgetting_desk.ForgettingDeskLoopDesk.stand_at.Goals as goal

pub returns-clause-goes_on : goal.returns-clause-goes_on
returns-clause-goes_on g c = seen_goes g.O.Object.rules _ c.args.self.now c.self.inside.hall c.self.view_is
    (leads_stay g.O.Object.rules c.self.inside.hall c.self.inside.hall refl)
