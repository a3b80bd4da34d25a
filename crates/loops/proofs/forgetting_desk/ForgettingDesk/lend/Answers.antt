use Rattle.std.proofs.Common.{sym, ap, subst}
use Rattle.forgetting_hall.specs.Leading.{LeadsOn}
use Rattle.forgetting_hall.specs.LeadingLaws.{leads_stay}
use Rattle.loops.specs.Desks.{LeanDesk}
use Rattle.loops.proofs.forgetting_desk.ForgettingDesk.lend.Goals as goal
use Rattle.loops.proofs.forgetting_desk.ForgettingDesk.lend.Goals.{in-Some, in-None+in_ok-last-in-None}

pub returns-clause-goes_on : goal.returns-clause-goes_on
returns-clause-goes_on g c =
    let rules = g.O.Object.rules in
    let h = c.args.self.now.hall in
    let z = c.match-next_free.self.hall in
    subst (LeadsOn rules h) (sym (ap (λ (q : LeanDesk _ _ _). q.hall) c.self-2.view_is)) (elim c.match-next_free.branch [
      | in-Some w ↦ leads_stay rules h z (ap (λ (q : LeanDesk _ _ _). q.hall) w.self-is)
      | in-None+in_ok-last-in-None w ↦ subst (λ (q : LeanDesk _ _ _). LeadsOn rules h q.hall) (sym w.self-is) w.next_new.ensures.goes_on
    ])
