use Rattle.std.proofs.Common.{subst}
use Rattle.forgetting_hall.specs.LeadingLaws.{leads_trans}
use Rattle.forgetting_hall.specs.Leading.{LeadsOn}
use Rattle.loops.proofs.Keeping.{seen_goes}
use Rattle.loops.proofs.forgetting_desk.ForgettingDeskLoopDesk.settle.Goals as goal
use Rattle.loops.proofs.forgetting_desk.ForgettingDeskLoopDesk.settle.Goals.{then-lag-ge-FORGOTTEN_AT_ONCE, else-lag-ge-FORGOTTEN_AT_ONCE}

pub returns-clause-goes_on : goal.returns-clause-goes_on
returns-clause-goes_on g c =
    let rules = g.O.Object.rules in
    let z = c.settle.new.nodes in
    seen_goes rules _ c.args.self.now z c.self.view_is (elim c.if-lag-ge-FORGOTTEN_AT_ONCE.branch [
      | then-lag-ge-FORGOTTEN_AT_ONCE w ↦ leads_trans rules c.self.inside.hall w.forget.new.hall z w.forget.ensures.goes_on.leads
          (subst (λ q. LeadsOn rules q.hall z) w.self-inside-is c.settle.ensures.goes_on.leads)
      | else-lag-ge-FORGOTTEN_AT_ONCE w ↦ subst (λ q. LeadsOn rules q.hall z) w.self-inside-is c.settle.ensures.goes_on.leads
    ])
