-- A worker counts one command for each act that its client's ticket gains.
use Rattle.std.proofs.Common.{◌≡◌, ◌⊎◌, inl, inr, ℕ, suc, ◌+◌, List, [], ◌∷◌, length, Option, None, Some, Result, Ok, Err, refl, sym, ap, ◌∙◌, subst, arith}
use Rattle.std.proofs.lemmas.List.{length-append}
use Rattle.bean_words.specs.declared.op.Op.{Op}
use Rattle.bean_words.specs.declared.reply.Reply.{Reply}
use Rattle.object.specs.declared.command.Act.{Act}
use Rattle.object.specs.declared.command.Act.TheVariants.{Do, Close}
use Rattle.hall.specs.declared.ticket.NotedAct.{NotedAct}
use Rattle.hall.specs.Tickets.{TicketState, with_act, with_last_reply, with_noted}
use Rattle.bean_codec.specs.declared.profile.Profile.{Profile}
use Rattle.session.specs.declared.faults.End.{End}
use Rattle.session.specs.declared.faults.ServiceFault.{ServiceFault}
use Rattle.session.specs.declared.faults.ServiceFault.TheVariants.{Refused, Stopped}
use Rattle.session.specs.declared.faults.SessionFault.{SessionFault}
use Rattle.session.specs.declared.faults.SessionFault.TheVariants.{OutOfMemory, ReadFailed, WriteFailed, ServiceStopped}
use Rattle.session.specs.Items.{Response}
use Rattle.session.specs.Serving.{Asked, result_of, StopsAt, Partly, ClosedAfter, ClosedBadly, ClosedOnce, Served}
use Rattle.session.specs.StreamStates.{StreamState}
use Rattle.node_threads.specs.Attending.{Attendance, Adds, TakesLeave, with_one}

abbrev pub Balances : {Op Reply : Type 0} → Attendance Op Reply → Attendance Op Reply → Type 0
Balances old new = new.count + length old.ticket.acts ≡ old.count + length new.ticket.acts

module _ {Op Reply : Type 0} where
  as_long : (acts : List (NotedAct Op Reply)) (reply : Reply) → length (with_last_reply acts reply) ≡ length acts
  as_long [] reply = refl
  as_long (a ∷ []) reply = refl
  as_long (a ∷ b ∷ more) reply = ap suc (as_long (b ∷ more) reply)

  noted_long : (t : TicketState Op Reply) (noted : Option Reply) → length (with_noted t noted).acts ≡ length t.acts
  noted_long t None = refl
  noted_long t (Some reply) = as_long t.acts reply

  one_long : (t : TicketState Op Reply) (act : Act Op) (noted : Option Reply) → length (with_noted (with_act t act) noted).acts ≡ length t.acts + 1
  one_long t act noted = noted_long (with_act t act) noted ∙ length-append t.acts (record { act = act; reply = None } ∷ [])

  one_balances : (old new : Attendance Op Reply) (act : Act Op) (noted : Option Reply) → new ≡ with_one old act noted → Balances old new
  one_balances old new act noted is =
      let count : new.count ≡ old.count + 1 = ap (λ (h : Attendance Op Reply). h.count) is in
      let acts : length new.ticket.acts ≡ length old.ticket.acts + 1 =
      ap (λ (h : Attendance Op Reply). length h.ticket.acts) is ∙ one_long old.ticket act noted in
      omega (arith, count, acts)

  same_balances : (old new : Attendance Op Reply) → new ≡ old → Balances old new
  same_balances old new is = subst (λ h. Balances old h) (sym is) refl

  then_balances : (a b c : Attendance Op Reply) → Balances a b → Balances b c → Balances a c
  then_balances a b c first next = omega (arith, first, next)

  adds_balance : (old : Attendance Op Reply) (op : Op) (r : Result Reply ServiceFault) (new : Attendance Op Reply) → Adds old op r new → Balances old new
  adds_balance old op (Ok reply) new is = one_balances old new (Do op) (Some reply) is
  adds_balance old op (Err Refused) new is = same_balances old new is
  adds_balance old op (Err Stopped) new (inl is) = same_balances old new is
  adds_balance old op (Err Stopped) new (inr is) = one_balances old new (Do op) is.0 is.1

  ends_balance : (old : Attendance Op Reply) (r : Result Unit ServiceFault) (new : Attendance Op Reply) → TakesLeave old r new → Balances old new
  ends_balance old (Ok done) new is = one_balances old new Close None is
  ends_balance old (Err Refused) new is = absurd is
  ends_balance old (Err Stopped) new is = same_balances old new is

asked_balance : (old new : Attendance Op Reply) (ops : List Op) (answers : List Response) → Asked Adds old ops answers new → Balances old new
asked_balance old new [] [] is = same_balances old new (sym is)
asked_balance old new [] (x ∷ answers) is = absurd is
asked_balance old new (op ∷ ops) [] is = absurd is
asked_balance old new (op ∷ ops) (x ∷ answers) is =
    then_balances old is.0 new (adds_balance old op (result_of x) is.0 is.1) (asked_balance is.0 new ops answers is.2)

closed_balance : (old new : Attendance Op Reply) (P : Attendance Op Reply → Type 0) (r : Result Unit ServiceFault)
    → ((last : Attendance Op Reply) → P last → Balances old last) → ClosedAfter TakesLeave P r new → Balances old new
closed_balance old new P r before c = then_balances old c.0 new (before c.0 c.1) (ends_balance c.0 r new c.2)

-- however the session ended
pub served_balance : (profile : Profile) (old new : Attendance Op Reply) (before after : StreamState) (r : Result End SessionFault)
    → Served profile Adds TakesLeave old new before after r → Balances old new
served_balance profile old new before after (Ok end) served =
    closed_balance old new _ (Ok tt) (λ last w. asked_balance old last _ w.1 w.3) served.ok.4
served_balance profile old new before after (Err ReadFailed) served =
    let o = (served.all_was_told refl).4 in closed_balance old new _ o.0 (λ last w. asked_balance old last _ w.1 w.3) o.1
served_balance profile old new before after (Err WriteFailed) served =
    let o = (served.breaks_off refl).4 in closed_balance old new _ o.0 (λ last w. asked_balance old last _ w.2 w.8) o.1
served_balance profile old new before after (Err ServiceStopped) served = at (served.stopped refl).4
  where
    at : {input output : List ℕ} → (ClosedOnce TakesLeave (λ s. StopsAt profile Adds old s input output) new
        ⊎ ClosedBadly profile Adds TakesLeave old new after (Err ServiceFault.Stopped) input output) → Balances old new
    at (inl o) = closed_balance old new _ o.0
        (λ last s. then_balances old s.4 last (asked_balance old s.4 _ s.1 s.6)
        (adds_balance s.4 s.2 (Err Stopped) last s.7)) o.1
    at (inr o) = closed_balance old new _ (Err Stopped) (λ last w. asked_balance old last _ w.1 w.3) o.1
served_balance profile old new before after (Err OutOfMemory) served = at (served.out_of_memory refl).4
  where
    at : {input output : List ℕ} → (ClosedOnce TakesLeave (λ s. Partly profile Adds old s input output) new
        ⊎ ClosedBadly profile Adds TakesLeave old new after (Err ServiceFault.Refused) input output) → Balances old new
    at (inl o) = closed_balance old new _ o.0 (λ last p. asked_balance old last _ p.2 p.6) o.1
    at (inr o) = absurd o.1.2
