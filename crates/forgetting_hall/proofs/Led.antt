-- A hall leads on from call to call.
use Rattle.std.proofs.Common.{◌≡◌, ◌≢◌, ◌≤◌, ◌<◌, ◌+◌, ⊎_elim, ℕ, Bool, false, cond, List, [], ◌∷◌, ◌++◌, Option, Some, None}
use Rattle.std.proofs.Common.{refl, sym, ap, ◌∙◌, subst, arith}
use Rattle.std.specs.Prelude.{option_map, Result, Ok, Err, OnOk}
use Rattle.std.specs.FinMap.{get, insert, remove, get-remove}
use Rattle.std.specs.Cmp.{nat_cmp_total}
use Rattle.std.specs.Ordering.{nat_cmp, eq_by_cmp}
use Rattle.std.proofs.lemmas.Bool.{cases_eq, cases_lt}
use Rattle.std.proofs.lemmas.Bool.Decides.{nat_tests}
use Rattle.object.specs.Objects.{Rules}
use Rattle.object.specs.declared.command.Act.{Act}
use Rattle.object.specs.declared.command.Answer.{Answer}
use Rattle.object.specs.declared.command.Command.{Command}
use Rattle.object.specs.declared.command.Key.{Key}
use Rattle.ballot.specs.Rests.{rest_of_body}
use Rattle.ballot.specs.Slots.{Slots}
use Rattle.ballot.specs.declared.letter.Letter.{Letter}
use Rattle.ballot.specs.declared.letter.LetterBody.{LetterBody}
use Rattle.ballot.proofs.SlotMaps.{get_each}
use Rattle.node.specs.SlotLaws.{get_insert_same, get_insert_other}
use Rattle.node.specs.declared.deed.Deed.{Deed}
use Rattle.node.specs.declared.deed.Deed.TheVariants.{Request}
use Rattle.node.specs.declared.deed.Outcome.{Outcome}
use Rattle.network.specs.Networks.{NetworkState, front}
use Rattle.agreement.specs.Events.{event_of}
use Rattle.agreement.specs.Runs.{most_events, IsWorld, at_once, after}
use Rattle.agreement.specs.Worlds.{World}
use Rattle.agreement.specs.declared.event.Event.{Event}
use Rattle.agreement.specs.declared.event.Event.TheVariants.{Submit, Deliver}
use Rattle.hall.specs.declared.error.HallError.{HallError}
use Rattle.hall.specs.declared.error.HallError.TheVariants.{BadNumber}
use Rattle.hall.specs.Halls.{tick_of}
use Rattle.hall.specs.Refusals.{Refuses, RefusesOrIdles}
use Rattle.lean_network.specs.LeanNetworks.{lean_mail_of}
use Rattle.lean_network.specs.declared.receipt.Receipt.{Receipt}
use Rattle.client_table.specs.Clients.{Summary, client_of, new_client, number_of_last, replied, with_effect, with_replies}
use Rattle.client_table.specs.declared.client.Client.{Client}
use Rattle.forgetting_hall.specs.Calls.{TakesIn, IsNoEvent}
use Rattle.forgetting_hall.specs.Halls.{ForgettingState, FollowsIn, FollowsLeft, ShowsStill, rest_of_hall}
use Rattle.forgetting_hall.specs.Handing.{last_of, last_of_client, next_of, second_of}
use Rattle.forgetting_hall.specs.Leading.{LeadsTo, LeadsOn}
use Rattle.forgetting_hall.specs.LeadingLaws.{leads_stay, second_in}
use Rattle.forgetting_hall.specs.Refusing.{refusal_of_event, refusal_of_keyed, refusal_of_node, refusal_of_resubmit, refusal_of_submit, refusal_of_tick}
use Rattle.forgetting_hall.specs.Rests.{HallRest, ShowsWorld, FollowsEvent, IsReceivedRest, acted_rest, done_rest, forgotten_rest, handed_in}
use Rattle.forgetting_hall.specs.Rests.{let_go_rest, lost_rest, opened_as, opened_rest, repeated_rest}
use Rattle.forgetting_hall.proofs.Asking.{again_room, keyed_second, keyed_room, submit_session, submit_room, tick_room}
use Rattle.forgetting_hall.proofs.Following.{Next, event_room}
use Rattle.forgetting_hall.proofs.Told.{not_refused}

same_second : (a b : ℕ) → b ≡ a → a ≤ b
same_second a b e = omega (arith, e)

module _ {Op Reply : Type 0} (clients : Slots (Client Op Reply)) where
  -- where a client is put
  second_beside : (session : ℕ) (client : Client Op Reply) → 0 < session → second_in (insert clients session client) ≡ second_in clients
  second_beside session client apart =
      ap (λ o. number_of_last (last_of_client o)) (get_insert_other clients session client 0 (λ e. absurd (omega (arith, e, apart))))

  second_put : (session : ℕ) (client : Client Op Reply) → (session ≡ 0 → second_in clients ≤ number_of_last client.last)
      → second_in clients ≤ second_in (insert clients session client)
  second_put session client above = ⊎_elim
      (λ (e : session ≡ 0).
      let here : second_in (insert clients session client) ≡ number_of_last client.last =
      ap (λ s. second_in (insert clients s client)) e
      ∙ ap (λ o. number_of_last (last_of_client o)) (get_insert_same clients 0 client) in
      let low = above e in omega (arith, here, low))
      (λ (n : session ≢ 0).
      let beside = ap (λ o. number_of_last (last_of_client o)) (get_insert_other clients session client 0 (λ e. n (sym e))) in
      let same : second_in (insert clients session client) ≡ second_in clients = beside in
      omega (arith, same))
      (cases_eq session 0)

  -- and where one is taken away
  second_left : (session : ℕ) → 0 < session → second_in (remove clients session) ≡ second_in clients
  second_left session apart =
      ap (λ o. number_of_last (last_of_client o))
      (get-remove nat_cmp_total clients session 0 ∙ ap (λ b. cond b None (get clients 0)) (other session apart))
    where
      other : (s : ℕ) → 0 < s → eq_by_cmp nat_cmp 0 s ≡ false
      other s n = grind (arith, nat_tests, n)

same_last : {Op Reply : Type 0} (given : List (Answer Reply)) (o : Option (Client Op Reply))
    → last_of_client (option_map (λ client. replied given client) o) ≡ last_of_client o
same_last given None = refl
same_last given (Some client) = refl

module _ {Op Reply : Type 0} (s : Summary Op Reply) where
  second_told : (given : List (Answer Reply)) → second_in (with_replies given s).clients ≡ second_in s.clients
  second_told given =
      ap (λ o. number_of_last (last_of_client o)) (get_each (λ _ client. replied given client) s.clients 0)
      ∙ ap (λ o. number_of_last o) (same_last given (get s.clients 0))

second_placed : {Op Reply : Type 0} (key : Option Key) (s : Summary Op Reply) → second_in (with_effect key s).clients ≡ second_in s.clients
second_placed None s = refl
second_placed (Some key) s = refl

module _ {O Op Reply : Type 0} (rules : Rules O Op Reply) where
  module _ (h z : ForgettingState Op O Reply) where
    -- where there is no event, by what is kept then
    still_leads : (rest : HallRest Op O Reply) → rest_of_hall rules z ≡ rest → ShowsStill rules h z → rest.network.members ≡ h.network.members
        → h.opened ≤ rest.opened → second_of h ≤ second_in rest.summary.clients → LeadsOn rules h z
    still_leads rest is still members opened second = record {
      worlds = λ w i s. ([], w, at_once, i, still w i s);
      members = ap (λ (q : HallRest Op O Reply). q.network.members) is ∙ members;
      opened = let e : z.opened ≡ rest.opened = ap (λ (q : HallRest Op O Reply). q.opened) is in omega (arith, e, opened);
      second =
          let e : second_of z ≡ second_in rest.summary.clients = ap (λ (q : HallRest Op O Reply). second_in q.summary.clients) is in
          omega (arith, e, second);
    }

    module _ (next : Next rules) (room : h.taken < most_events) where
      -- a world leads on by one event
      by_event : (w : World Op Reply) (e : Event Op) → IsWorld rules w → ShowsWorld rules (rest_of_hall rules h) w
          → FollowsEvent rules w e (rest_of_hall rules z) → LeadsTo rules w z
      by_event w e i s f = (
        [] ++ (e ∷ []),
        f.0,
        after e f.0 at_once f.1,
        next w f.0 e i f.1 (subst (λ n. n < most_events) s.taken room),
        f.2,
      )

      -- where there is one, by what is kept then
      event_leads : (rest : HallRest Op O Reply) → rest_of_hall rules z ≡ rest
          → ((w : World Op Reply) → IsWorld rules w → ShowsWorld rules (rest_of_hall rules h) w → (e : Event Op) × FollowsEvent rules w e (rest_of_hall rules z))
          → rest.network.members ≡ h.network.members → h.opened ≤ rest.opened → second_of h ≤ second_in rest.summary.clients → LeadsOn rules h z
      event_leads rest is follows members opened second = record {
        worlds = λ w i s. let f = follows w i s in by_event w f.0 i s f.1;
        members = ap (λ (q : HallRest Op O Reply). q.network.members) is ∙ members;
        opened = let e : z.opened ≡ rest.opened = ap (λ (q : HallRest Op O Reply). q.opened) is in omega (arith, e, opened);
        second =
            let e : second_of z ≡ second_in rest.summary.clients = ap (λ (q : HallRest Op O Reply). second_in q.summary.clients) is in
            omega (arith, e, second);
      }

      -- a command is handed in, which is no earlier second of the clock
      takes_leads : (n : ℕ) (c : Command Op) → rest_of_hall rules z ≡ handed_in rules (rest_of_hall rules h) n c
          → FollowsIn rules h (Submit n c) z → (c.key.session ≡ 0 → second_of h ≤ c.key.number) → LeadsOn rules h z
      takes_leads n c is follows above = event_leads (handed_in rules (rest_of_hall rules h) n c) is
          (λ w i s. (Submit n c, follows w i s)) refl (omega arith)
          (second_put h.summary.clients c.key.session (client_of c) above)

    -- a call that hands in, by what its refusal leaves
    takes_so : Next rules → (n : ℕ) (c : Command Op) (reason : Option HallError) (result : Result Unit HallError)
        → (reason ≡ None → h.taken < most_events) → (reason ≡ None → c.key.session ≡ 0 → second_of h ≤ c.key.number)
        → TakesIn rules n c reason result h z → LeadsOn rules h z
    takes_so next n c reason (Err e) room above takes = leads_stay rules h z takes.refused.err
    takes_so next n c reason (Ok x) room above takes =
        let none = not_refused reason x takes.refused.refused in
        takes_leads next (room none) n c takes.ok takes.event (above none)

    pub submit_leads : Next rules → (session : ℕ) (act : Act Op) (n : ℕ) (result : Result Unit HallError)
        → TakesIn rules n (next_of h session act) (refusal_of_submit h session act n) result h z → LeadsOn rules h z
    submit_leads next session act n result takes = takes_so next n (next_of h session act) (refusal_of_submit h session act n) result
        (λ none. submit_room h session act n none)
        (λ none e. let apart = submit_session h session act n none in absurd (omega (arith, e, apart))) takes

    pub tick_leads : Next rules → (n : ℕ) (result : Result Unit HallError)
        → TakesIn rules n (tick_of (second_of h + 1)) (refusal_of_tick h n) result h z → LeadsOn rules h z
    tick_leads next n result takes = takes_so next n (tick_of (second_of h + 1)) (refusal_of_tick h n) result
        (λ none. tick_room h n none) (λ none e. omega arith) takes

    pub keyed_leads : Next rules → (c : Command Op) (n : ℕ) (result : Result Unit HallError)
        → TakesIn rules n c (refusal_of_keyed h c.key n) result h z → LeadsOn rules h z
    keyed_leads next c n result takes = takes_so next n c (refusal_of_keyed h c.key n) result
        (λ none. keyed_room h c n none) (λ none e. keyed_second h c n none e) takes

    pub again_leads : Next rules → (session n : ℕ) (result : Result Unit HallError)
        → OnOk result ((c : Command Op) → last_of h session ≡ Some c
        → rest_of_hall rules z ≡ acted_rest rules (rest_of_hall rules h) n (Request c))
        → OnOk result ((c : Command Op) → last_of h session ≡ Some c → FollowsIn rules h (Submit n c) z)
        → RefusesOrIdles (refusal_of_resubmit h session n) (last_of h session ≡ None) result h z → LeadsOn rules h z
    again_leads next session n (Err e) ok event refuses = leads_stay rules h z refuses.refused.err
    again_leads next session n (Ok x) ok event refuses = at (last_of h session) refl
      where
        at : (o : Option (Command Op)) → last_of h session ≡ o → LeadsOn rules h z
        at None e = leads_stay rules h z (refuses.none e)
        at (Some c) e = event_leads next
            (again_room h session n (not_refused (refusal_of_resubmit h session n) x refuses.refused.refused) c e)
            (acted_rest rules (rest_of_hall rules h) n (Request c)) (ok c e) (λ w i s. (Submit n c, event c e w i s)) refl (omega arith) (omega arith)

    pub act_leads : Next rules → (n : ℕ) (d : Deed Op) (result : Result Outcome HallError)
        → OnOk result (rest_of_hall rules z ≡ done_rest rules (rest_of_hall rules h) n d)
        → OnOk result (FollowsIn rules h (event_of n d) z) → Refuses (refusal_of_event h n) result h z → LeadsOn rules h z
    act_leads next n d (Err e) ok event refuses = leads_stay rules h z refuses.err
    act_leads next n d (Ok x) ok event refuses = event_leads next (event_room h n (not_refused (refusal_of_event h n) x refuses.refused))
        (done_rest rules (rest_of_hall rules h) n d) ok (λ w i s. (event_of n d, event w i s)) refl (omega arith)
        (same_second _ _ (second_placed _ _ ∙ second_told h.summary _))

    pub letter_leads : Next rules → (n : ℕ) (result : Result Receipt HallError)
        → OnOk result ((l : Letter (Command Op)) (left : LetterBody (Command Op)) → front (lean_mail_of h.network n) ≡ Some l
        → rest_of_body h.base l.body ≡ Some left → IsReceivedRest (rest_of_hall rules h) n l left (rest_of_hall rules z))
        → OnOk result ((l : Letter (Command Op)) (left : LetterBody (Command Op)) → front (lean_mail_of h.network n) ≡ Some l
        → rest_of_body h.base l.body ≡ Some left → FollowsLeft rules h n l left z)
        → OnOk result ((l : Letter (Command Op)) → front (lean_mail_of h.network n) ≡ Some l → rest_of_body h.base l.body ≡ None
        → rest_of_hall rules z ≡ lost_rest (rest_of_hall rules h) n)
        → OnOk result ((l : Letter (Command Op)) → front (lean_mail_of h.network n) ≡ Some l → rest_of_body h.base l.body ≡ None → ShowsStill rules h z)
        → RefusesOrIdles (refusal_of_event h n) (front (lean_mail_of h.network n) ≡ None) result h z → LeadsOn rules h z
    letter_leads next n (Err e) ok event forgotten still refuses = leads_stay rules h z refuses.refused.err
    letter_leads next n (Ok x) ok event forgotten still refuses = at (front (lean_mail_of h.network n)) refl
      where
        of : (l : Letter (Command Op)) → front (lean_mail_of h.network n) ≡ Some l → (left : Option (LetterBody (Command Op)))
            → rest_of_body h.base l.body ≡ left → LeadsOn rules h z
        of l came None was = still_leads (lost_rest (rest_of_hall rules h) n) (forgotten l came was) (still l came was) refl (omega arith) (omega arith)
        of l came (Some left) was =
            let r = ok l left came was in
            event_leads next (event_room h n (not_refused (refusal_of_event h n) x refuses.refused.refused))
            (record (rest_of_hall rules h) { network = r.0; taken = h.taken + 1 }) r.2
            (λ w i s. let f = event l left came was w i s in (Deliver f.0, f.5))
            (ap (λ (q : NetworkState (Command Op)). q.members) r.1.2) (omega arith) (omega arith)

        at : (o : Option (Letter (Command Op))) → front (lean_mail_of h.network n) ≡ o → LeadsOn rules h z
        at None came = leads_stay rules h z (refuses.none came)
        at (Some l) came = of l came (rest_of_body h.base l.body) refl

    pub lost_leads : (n : ℕ) (result : Result Bool HallError) → IsNoEvent rules (lost_rest (rest_of_hall rules h) n) result h z → LeadsOn rules h z
    lost_leads n (Err e) is = leads_stay rules h z is.err
    lost_leads n (Ok x) is = still_leads (lost_rest (rest_of_hall rules h) n) is.ok is.still refl (omega arith) (omega arith)

    pub repeat_leads : (n : ℕ) (result : Result Bool HallError)
        → OnOk result ((l : Letter (Command Op)) → front (lean_mail_of h.network n) ≡ Some l
        → rest_of_hall rules z ≡ repeated_rest (rest_of_hall rules h) n l) → ShowsStill rules h z
        → RefusesOrIdles (refusal_of_node h n) (front (lean_mail_of h.network n) ≡ None) result h z → LeadsOn rules h z
    repeat_leads n (Err e) ok still refuses = leads_stay rules h z refuses.refused.err
    repeat_leads n (Ok x) ok still refuses = at (front (lean_mail_of h.network n)) refl
      where
        at : (o : Option (Letter (Command Op))) → front (lean_mail_of h.network n) ≡ o → LeadsOn rules h z
        at None came = leads_stay rules h z (refuses.none came)
        at (Some l) came = still_leads (repeated_rest (rest_of_hall rules h) n l) (ok l came) still refl (omega arith) (omega arith)

    pub forget_leads : rest_of_hall rules z ≡ forgotten_rest (rest_of_hall rules h) z.base → ShowsStill rules h z → LeadsOn rules h z
    forget_leads is still = still_leads (forgotten_rest (rest_of_hall rules h) z.base) is still refl (omega arith) (omega arith)

    pub open_leads : (result : Result ℕ HallError) → IsNoEvent rules (opened_rest (rest_of_hall rules h)) result h z → LeadsOn rules h z
    open_leads (Err e) is = leads_stay rules h z is.err
    open_leads (Ok x) is = still_leads (opened_rest (rest_of_hall rules h)) is.ok is.still refl (omega arith)
        (same_second _ _ (second_beside h.summary.clients (h.opened + 1) new_client (omega arith)))

    above_opened : (session : ℕ) (x : Unit {0}) → (session ≤ h.opened → Ok x ≡ Err BadNumber) → h.opened < session
    above_opened session x refused = ⊎_elim
        (λ (high : h.opened < session). high)
        (λ (low : session ≤ h.opened). absurd (let e = refused low in cc))
        (cases_lt h.opened session)

    pub open_as_leads : (session : ℕ) (result : Result Unit HallError) → IsNoEvent rules (opened_as (rest_of_hall rules h) session) result h z
        → (session ≤ h.opened → result ≡ Err BadNumber) → LeadsOn rules h z
    open_as_leads session (Err e) is refused = leads_stay rules h z is.err
    open_as_leads session (Ok x) is refused =
        let high = above_opened session x refused in
        still_leads (opened_as (rest_of_hall rules h) session) is.ok is.still refl (omega (arith, high))
        (same_second _ _ (second_beside h.summary.clients session new_client (omega (arith, high))))

    pub let_go_leads : (session : ℕ) → 0 < session → rest_of_hall rules z ≡ let_go_rest (rest_of_hall rules h) session → ShowsStill rules h z
        → LeadsOn rules h z
    let_go_leads session apart is still = still_leads (let_go_rest (rest_of_hall rules h) session) is still refl (omega arith)
        (same_second _ _ (second_left h.summary.clients session apart))
