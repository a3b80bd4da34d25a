-- A reply noted for the last act of a ticket.
use Rattle.std.proofs.Common.{◌≡◌, ℕ, List, [], ◌∷◌, ◌++◌, Some, refl, sym, ap, ◌∙◌}
use Rattle.hall.specs.declared.ticket.NotedAct.{NotedAct}
use Rattle.hall.specs.Tickets.{TicketState, with_last_reply}

module _ {Op Reply : Type 0} (reply : Reply) where
  last_replied : (rest : List (NotedAct Op Reply)) (a : NotedAct Op Reply)
      → with_last_reply (rest ++ (a ∷ [])) reply ≡ rest ++ (record { act = a.act; reply = Some reply } ∷ [])
  last_replied [] a = refl
  last_replied (x ∷ []) a = refl
  last_replied (x ∷ y ∷ more) a = ap (λ xs. x ∷ xs) (last_replied (y ∷ more) a)

  -- the last act is taken out, and put back with the reply
  pub noted_last : (t : TicketState Op Reply) (session : ℕ) (old rest now : List (NotedAct Op Reply))
      (a b : NotedAct Op Reply) → record { session = session; acts = old } ≡ t → old ≡ rest ++ (a ∷ []) → b.act ≡ a.act
      → b.reply ≡ Some reply → now ≡ rest ++ (b ∷ [])
      → ◌≡◌ {A = TicketState Op Reply} (record { session = session; acts = now })
      (record { session = t.session; acts = with_last_reply t.acts reply })
  noted_last t session old rest now a b is out act replied back =
      ap (λ xs. record { session = session; acts = xs })
      (back ∙ (λ i. rest ++ (record { act = act i; reply = replied i } ∷ [])) ∙ sym (last_replied rest a) ∙ ap
      (λ xs. with_last_reply xs reply) (sym out))
      ∙ ap (λ (u : TicketState Op Reply). record { session = u.session; acts = with_last_reply u.acts reply }) is
