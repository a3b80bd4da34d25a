-- What a client hands in goes on, whatever it is.
use Rattle.std.proofs.Common.{◌≡◌, ◌⊎◌, inl, inr, sym, ap, subst, refl}
use Rattle.std.specs.Prelude.{Result, Ok, Err, OnOk, IfErr}
use Rattle.bean_words.specs.declared.op.Op.{Op}
use Rattle.object.specs.declared.command.Act.{Act}
use Rattle.object.specs.declared.command.Act.TheVariants.{Do, Close}
use Rattle.hall.specs.declared.error.HallError.{HallError}
use Rattle.hall.specs.declared.error.HallError.TheVariants.{OutOfMemory}
use Rattle.conversation.specs.declared.stage.Stage.{Stage}
use Rattle.conversation.specs.declared.stage.Stage.TheVariants.{Looking, Reading, Found, Asked, Leaving, Left}
use Rattle.conversation.specs.Desks.{AsksOp, HandsIn, Submits, closing, giving_up, hands_in}
use Rattle.conversation.specs.Keeping.{Keeping}
use Rattle.conversation.specs.Talks.{ConversationState}
use Rattle.event_loops.specs.Courses.{AllLead, Course, Sight, Sights}
use Rattle.event_loops.proofs.Courses.{goes_nowhere}

-- each way in which something is handed in goes on, and so does nothing
pub hands_on : {D T : Type 0} (keeping : Keeping T) (submits : Submits D T) (leads : Course) (shows : D → Sights)
    → ((w : Sight) → leads w w)
    → ((old new : D) (ticket : T) (act : Act Op) (result : Result Unit HallError) → submits old ticket act result new
    → AllLead leads (shows old) (shows new))
    → (before after : D) (old new : ConversationState T) (result : Result Unit HallError)
    → HandsIn keeping submits before after old new result → AllLead leads (shows before) (shows after)
hands_on keeping submits leads shows stays submits_on before after old new result does = at old.stage refl result refl
  where
    nothing : after ≡ before → AllLead leads (shows before) (shows after)
    nothing same = subst (λ d. AllLead leads (shows before) (shows d)) (sym same) (goes_nowhere leads (shows before) stays)

    asked : (op : Op) → AsksOp keeping submits before after op old new → AllLead leads (shows before) (shows after)
    asked op (inl done) = submits_on before after old.ticket (Do op) (Ok tt) done.0
    asked op (inr refused) = submits_on before after old.ticket (Do op) (Err OutOfMemory) refused.0

    at : (s : Stage) → old.stage ≡ s → (r : Result Unit HallError) → result ≡ r → AllLead leads (shows before) (shows after)
    at Looking is r res = nothing (does.idle (ap hands_in is)).1
    at Reading is r res = nothing (does.idle (ap hands_in is)).1
    at Asked is r res = nothing (does.idle (ap hands_in is)).1
    at (Left how) is r res = nothing (does.idle (ap hands_in is)).1
    at (Found op) is (Ok u) res = asked op (subst (λ q. OnOk q (AsksOp keeping submits before after op old new)) res (does.asks op is))
    at (Found op) is (Err e) res =
        submits_on before after old.ticket (Do op) (Err e)
        (subst (λ q. IfErr q (λ error. submits before old.ticket (Do op) (Err error) after × (new ≡ giving_up old))) res (does.gives_up op is)).0
    at (Leaving how) is (Ok u) res =
        submits_on before after old.ticket Close (Ok tt)
        (subst (λ q. OnOk q (submits before old.ticket Close (Ok tt) after × (new ≡ closing keeping how old))) res (does.closes how is)).0
    at (Leaving how) is (Err e) res =
        submits_on before after old.ticket Close (Err e)
        (subst (λ q. IfErr q (λ error. submits before old.ticket Close (Err error) after × (new ≡ old))) res (does.owes how is)).0
