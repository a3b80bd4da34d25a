-- The reply that stands last in a ticket.
use Rattle.std.proofs.Common.{◌≡◌, suc, ◌-◌, List, [], ◌∷◌, length, Option, None, Some, refl, sym, ap, ◌∙◌, arith}
use Rattle.std.specs.Prelude.{slice_get, OnOk, OnErr, Result, Ok, Err}
use Rattle.hall.specs.declared.ticket.NotedAct.{NotedAct}
use Rattle.hall.specs.Tickets.{TicketState, last_noted, noted_reply, with_last_reply, with_noted}

inside : {X : Type 0} (x y : X) → Some x ≡ Some y → x ≡ y
inside x y e = cc

module _ {Op Reply : Type 0} where
  last_at : (a : NotedAct Op Reply) (rest : List (NotedAct Op Reply)) (reply : Reply)
      → noted_reply (slice_get (with_last_reply (a ∷ rest) reply) (length rest)) ≡ Some reply
  last_at a [] reply = refl
  last_at a (b ∷ more) reply = last_at b more reply

  as_long : (acts : List (NotedAct Op Reply)) (reply : Reply) → length (with_last_reply acts reply) ≡ length acts
  as_long [] reply = refl
  as_long (a ∷ []) reply = refl
  as_long (a ∷ b ∷ more) reply = ap suc (as_long (b ∷ more) reply)

  last_reply : (acts : List (NotedAct Op Reply)) (reply x : Reply)
      → noted_reply (slice_get (with_last_reply acts reply) (length (with_last_reply acts reply) - 1)) ≡ Some x
      → reply ≡ x
  last_reply [] reply x e = absurd (cc)
  last_reply (a ∷ rest) reply x e =
      let long = as_long (a ∷ rest) reply in
      let place : length (with_last_reply (a ∷ rest) reply) - 1 ≡ length rest = omega (arith, long) in
      inside reply x (sym (last_at a rest reply) ∙ ap (λ i. noted_reply (slice_get (with_last_reply (a ∷ rest) reply) i)) (sym place) ∙ e)

  -- it is the one that was noted
  pub noted_last : (t u : TicketState Op Reply) (reply x : Reply) → u ≡ with_noted t (Some reply)
      → noted_reply (last_noted u) ≡ Some x → u ≡ with_noted t (Some x)
  noted_last t u reply x is e =
      let same = last_reply t.acts reply x (ap (λ (q : TicketState Op Reply). noted_reply (last_noted q)) (sym is) ∙ e) in
      is ∙ ap (λ r. with_noted t (Some r)) same

  -- where no call succeeded, nothing was noted
  pub none_noted : {X E : Type 0} (r : Result X E) (t u : TicketState Op Reply) → OnErr r (u ≡ t)
      → OnOk r ((reply : Reply) × (u ≡ with_noted t (Some reply))) → (noted : Option Reply) × (u ≡ with_noted t noted)
  none_noted (Ok x) t u err ok = (Some ok.0, ok.1)
  none_noted (Err e) t u err ok = (None, err)
