use Rattle.std.proofs.Common.{sym, ap, ◌∙◌, subst}
use Rattle.forgetting_hall.specs.Leading.{LeadsOn}
use Rattle.forgetting_hall.specs.LeadingLaws.{leads_stay, leads_trans}
use Rattle.loops.specs.Desks.{LeanDesk}
use Rattle.loops.specs.LeadingLaws.{lean_goes}
use Rattle.loops.proofs.forgetting_desk.ForgettingDeskLoopDesk.next_answered.Goals as goal
use Rattle.loops.proofs.forgetting_desk.ForgettingDeskLoopDesk.next_answered.Goals.{then-self-len, else-self-len}

pub returns-in_err-session-clause-goes_on : goal.returns-in_err-session-clause-goes_on
returns-in_err-session-clause-goes_on g c =
    let rules = g.O.Object.rules in
    let h = c.args.self.now.hall in
    let z = c.if-self-len.self.hall in
    lean_goes rules h z (elim c.if-self-len.branch [
      | then-self-len w ↦ leads_trans rules h w.note_ended.new.self.hall z w.note_ended.ensures.goes_on
          (leads_stay rules w.note_ended.new.self.hall z (ap (λ (q : LeanDesk _ _ _). q.hall) w.self-is ∙ w.take_answered.ensures
          ∙ ap (λ (q : LeanDesk _ _ _). q.hall) w.self-then-self-len.view_is))
      | else-self-len w ↦ leads_stay rules h z (ap (λ (q : LeanDesk _ _ _). q.hall) w.self-is)
    ])

pub returns-clause-goes_on : goal.returns-clause-goes_on
returns-clause-goes_on g c =
    let rules = g.O.Object.rules in
    let h = c.args.self.now.hall in
    let z = c.if-self-len.self.hall in
    lean_goes rules h c.self-2.inside.hall (subst (LeadsOn rules h) (sym (ap (λ (q : LeanDesk _ _ _). q.hall) c.self-2.view_is))
    (elim c.if-self-len.branch [
      | then-self-len w ↦ leads_trans rules h w.note_ended.new.self.hall z w.note_ended.ensures.goes_on
          (leads_stay rules w.note_ended.new.self.hall z (ap (λ (q : LeanDesk _ _ _). q.hall) w.self-is ∙ w.take_answered.ensures
          ∙ ap (λ (q : LeanDesk _ _ _). q.hall) w.self-then-self-len.view_is))
      | else-self-len w ↦ leads_stay rules h z (ap (λ (q : LeanDesk _ _ _). q.hall) w.self-is)
    ]))
