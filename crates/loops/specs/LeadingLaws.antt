-- What a server's hall goes through, as its loops see it.
use Rattle.std.proofs.Common.{◌≡◌, [], ◌++◌, refl, sym, subst}
use Rattle.std.specs.Prelude.{Result}
use Rattle.object.specs.Objects.{Rules}
use Rattle.object.specs.declared.command.Act.{Act}
use Rattle.agreement.specs.Runs.{at_once}
use Rattle.agreement.specs.Worlds.{World, opening}
use Rattle.hall.specs.Halls.{HallState, new_hall}
use Rattle.hall.specs.declared.error.HallError.{HallError}
use Rattle.turns.specs.Going.{HallGoesOn}
use Rattle.bean_words.specs.declared.op.Op.{Op}
use Rattle.bean_words.specs.declared.reply.Reply.{Reply}
use Rattle.event_loops.specs.Courses.{AllLead}
use Rattle.forgetting_hall.specs.Halls.{ForgettingState}
use Rattle.forgetting_hall.specs.Leading.{LeadsOn}
use Rattle.forgetting_hall.specs.LeadingLaws.{follow_on}
use Rattle.loops.specs.Desks.{HandsInLean, IsShownBy, LeadsBy, LeanDesk, LeanGoesOn}
use Rattle.loops.specs.Lending.{LentState}

module _ {O Op Reply : Type 0} (rules : Rules O Op Reply) where
  -- no event leads from a world to itself
  pub leads_nowhere : (w : World Op Reply) → LeadsBy rules w w
  leads_nowhere w = ([], at_once)

  -- and events lead on from where events have led to
  pub leads_further : (a b c : World Op Reply) → LeadsBy rules a b → LeadsBy rules b c → LeadsBy rules a c
  leads_further a b c first next = (first.0 ++ next.0, follow_on rules a b c first.0 next.0 first.1 next.1)

-- a hall that keeps all and goes on, as the loops see it
pub hall_goes : (h z : HallState Op Reply) → HallGoesOn h z
    → AllLead (λ s t. HallGoesOn s.hall t.hall) (λ s. s.hall ≡ h) (λ s. s.hall ≡ z)
hall_goes h z goes s seen = (record s { hall = z }, subst (λ q. HallGoesOn q z) (sym seen) goes, refl)

-- and back
pub hall_went : (h z : HallState Op Reply) → AllLead (λ s t. HallGoesOn s.hall t.hall) (λ s. s.hall ≡ h) (λ s. s.hall ≡ z) → HallGoesOn h z
hall_went h z all =
    let t = all (record { world = opening []; hall = h }) refl in
    subst (λ q. HallGoesOn h q) t.2 t.1

module _ {O : Type 0} (rules : Rules O Op Reply) where
  -- a hall that forgets and leads on, as the loops see it
  pub lean_goes : (h z : ForgettingState Op O Reply) → LeadsOn rules h z
      → AllLead (λ s t. LeadsBy rules s.world t.world) (λ s. IsShownBy rules h s.world) (λ s. IsShownBy rules z s.world)
  lean_goes h z leads s shown =
      let to = leads.worlds s.world shown.0 shown.1 in
      (record s { world = to.1 }, (to.0, to.2), (to.3, to.4))

  -- and back
  pub lean_went : (h z : ForgettingState Op O Reply)
      → AllLead (λ s t. LeadsBy rules s.world t.world) (λ s. IsShownBy rules h s.world) (λ s. IsShownBy rules z s.world)
      → LeanGoesOn rules h z
  lean_went h z all w shown =
      let t = all (record { world = w; hall = new_hall [] }) shown in
      (t.1.0, t.0.world, t.1.1, t.2.0, t.2.1)

  -- where something is handed in it goes on, too
  pub hands_lean : (old new : LeanDesk Op O Reply) (ticket : LentState) (act : Act Op) (result : Result Unit HallError)
      → HandsInLean rules old ticket act result new
      → AllLead (λ s t. LeadsBy rules s.world t.world) (λ s. IsShownBy rules old.hall s.world) (λ s. IsShownBy rules new.hall s.world)
  hands_lean old new ticket act result does = lean_goes old.hall new.hall does.leads
