-- What clients hand in has a key of its own.
use Rattle.std.proofs.Common.{◌≡◌, ◌≢◌, ◌⊎◌, inl, inr, ⊎_elim, ◌+◌, ℕ, Bool, true, false, cond, Option, Some, None}
use Rattle.std.proofs.Common.{List, [], ◌∷◌, ◌++◌, length, length-append, refl, sym, ap, ◌∙◌, subst, arith}
use Rattle.std.specs.Prelude.{slice_get, slice_set}
use Rattle.std.proofs.lemmas.Option.{same_Some}
use Rattle.object.specs.KeyLaws.{same_is}
use Rattle.object.specs.Keys.{same_key}
use Rattle.object.specs.ListLaws.{In-cases}
use Rattle.object.specs.Lists.{In}
use Rattle.object.specs.declared.command.Act.{Act}
use Rattle.object.specs.declared.command.Answer.{Answer}
use Rattle.object.specs.declared.command.Command.{Command}
use Rattle.object.specs.declared.command.Key.{Key}
use Rattle.cluster.specs.Clusters.{Hosts, with_handed}
use Rattle.cluster.proofs.alone.Acting.{same_number}
use Rattle.cluster.proofs.together.HandingIn.{handed_still}
use Rattle.host_clients.specs.Clients.{ClientsState, OpensAs, again, next, HandsInNext, EndsEarlier, HearsAnswer, there, nowhere, Frees}
use Rattle.host_clients.specs.Clients.{no_clients, last_number, seat_session, opened_seat, closed_seat, heard, first_of, reply_if}
use Rattle.host_clients.specs.Owning.{AreClientsOf, HasOnlyEndsLast}
use Rattle.host_clients.specs.declared.seat.Seat.{Seat}
use Rattle.host_clients.proofs.Places.{set_cases, more_cases, set_length}

-- a place that is told by its session
one_session : (first p q : ℕ) → seat_session first p ≡ seat_session first q → p ≡ q
one_session first p q e = omega (arith, e)

handed_or : {Op : Type 0} (handed : ℕ → List (Command Op)) (n : ℕ) (c d : Command Op) → In d (with_handed handed n c n)
    → In d (handed n) ⊎ (d ≡ c)
handed_or handed n c d i = ⊎_elim
    (λ (j : In d (handed n)). inl j)
    (λ (j : In d (c ∷ [])). ⊎_elim (λ (e : d ≡ c). inr e) (λ none. absurd none) j)
    (In-cases d (handed n) (c ∷ []) (subst (In d)
    (ap (λ b. cond b (handed n ++ (c ∷ [])) (handed n)) (same_number n n refl)) i))

handed_last : {Op : Type 0} (handed : ℕ → List (Command Op)) (n : ℕ) (c : Command Op) → In c (with_handed handed n c n)
handed_last handed n c = subst (In c)
    (sym (ap (λ b. cond b (handed n ++ (c ∷ [])) (handed n)) (same_number n n refl)))
    (Rattle.object.specs.ListLaws.In-right c (handed n) (c ∷ []) (inl refl))

-- a command is told by its key and what it asks for
same_command : {Op : Type 0} (c d : Command Op) → c.key ≡ d.key → c.act ≡ d.act → c ≡ d
same_command c d key act = λ i. record { key = key i; act = act i }

-- a seat without a last command has none, and one that handed one in has no reply
no_last : {Op Reply : Type 0} {X : Type 0} (c : Command Op) (seat x : Seat Op Reply) → x.last ≡ None → seat ≡ x
    → seat.last ≡ Some c → X
no_last {Op} {Reply} c seat x empty e last =
    let none : None ≡ Some c = sym empty ∙ sym (ap (λ (y : Seat Op Reply). y.last) e) ∙ last in absurd (cc)

no_reply : {Op Reply : Type 0} {X : Type 0} (c : Command Op) (seat : Seat Op Reply) (reply : Reply)
    → seat ≡ record { number = c.key.number; is_open = true; last = Some c; reply = None } → seat.reply ≡ Some reply → X
no_reply {Op} {Reply} c seat reply e is =
    let none : None ≡ Some reply = sym (ap (λ (x : Seat Op Reply). x.reply) e) ∙ is in absurd (cc)

module _ {Op O Reply : Type 0} (owner : ℕ → ℕ) (n : ℕ) (k : Hosts Op O Reply) where
  pub beginning : (first : ℕ) → ((place : ℕ) → owner (seat_session first place) ≡ n)
      → ((c : Command Op) (place : ℕ) → In c (k.handed n) → c.key.session ≡ seat_session first place → ⊥)
      → HasOnlyEndsLast (k.handed n) → AreClientsOf owner (no_clients first) n k
  beginning first owns unused ends = record {
    owns = owns;
    unused = λ c place i e low. unused c place i e;
    numbers = λ c place seat i e was. absurd (unused c place i e);
    last = λ place seat c was last. absurd (cc);
    replies = λ place seat c reply was last e. absurd (cc);
    ends = ends;
  }

  -- a seat that has no last command any more
  emptied : (s : ClientsState Op Reply) (p : ℕ) (seat x : Seat Op Reply) (free : List ℕ) → AreClientsOf owner s n k
      → slice_get s.seats p ≡ Some seat → x.last ≡ None → x.number ≡ seat.number
      → AreClientsOf owner (record s { seats = slice_set s.seats p x; free = free }) n k
  emptied s p seat x free are was empty number =
      let same = set_length s.seats p x in
      record {
        owns = are.owns;
        unused = λ c place i e low. are.unused c place i e (omega (arith, low, same));
        numbers = λ c place y i e at. ⊎_elim
            (λ (a : (place ≡ p) × (y ≡ x)).
            let low = are.numbers c p seat i (e ∙ ap (seat_session s.first) a.0) was in
            let is = ap (λ (z : Seat Op Reply). z.number) a.1 in omega (arith, low, is, number))
            (λ (b : (place ≢ p) × (slice_get s.seats place ≡ Some y)). are.numbers c place y i e b.1)
            (set_cases s.seats p place x y at);
        last = λ place y c at last. ⊎_elim
            (λ (a : (place ≡ p) × (y ≡ x)). no_last c y x empty a.1 last)
            (λ (b : (place ≢ p) × (slice_get s.seats place ≡ Some y)). are.last place y c b.1 last)
            (set_cases s.seats p place x y at);
        replies = λ place y c reply at last e. ⊎_elim
            (λ (a : (place ≡ p) × (y ≡ x)). no_last c y x empty a.1 last)
            (λ (b : (place ≢ p) × (slice_get s.seats place ≡ Some y)). are.replies place y c reply b.1 last e)
            (set_cases s.seats p place x y at);
        ends = are.ends;
      }

  pub opening : (s z : ClientsState Op Reply) (session : ℕ) → AreClientsOf owner s n k → OpensAs s session z
      → AreClientsOf owner z n k
  opening s _ _ are (again place free seat e was) = emptied s place seat (opened_seat seat.number) free are was refl refl
  opening s _ _ are (next none within) = record {
    owns = are.owns;
    unused = λ c place i e low.
        are.unused c place i e
        (let more = length-append s.seats (opened_seat 0 ∷ []) in omega (arith, low, more));
    numbers = λ c place seat i e was. ⊎_elim
        (λ (a : (place ≡ length s.seats) × (seat ≡ opened_seat 0)).
        absurd (are.unused c place i e (let at = a.0 in omega (arith, at))))
        (λ (b : slice_get s.seats place ≡ Some seat). are.numbers c place seat i e b)
        (more_cases s.seats place (opened_seat 0) seat was);
    last = λ place seat c was last. ⊎_elim
        (λ (a : (place ≡ length s.seats) × (seat ≡ opened_seat 0)).
        no_last c seat (opened_seat 0) refl a.1 last)
        (λ (b : slice_get s.seats place ≡ Some seat). are.last place seat c b last)
        (more_cases s.seats place (opened_seat 0) seat was);
    replies = λ place seat c reply was last e. ⊎_elim
        (λ (a : (place ≡ length s.seats) × (seat ≡ opened_seat 0)).
        no_last c seat (opened_seat 0) refl a.1 last)
        (λ (b : slice_get s.seats place ≡ Some seat). are.replies place seat c reply b last e)
        (more_cases s.seats place (opened_seat 0) seat was);
    ends = are.ends;
  }

  pub handing : (s z : ClientsState Op Reply) (session : ℕ) (act : Act Op) (c : Command Op)
      → AreClientsOf owner s n k → HandsInNext s session act c z
      → (owner c.key.session ≡ n)
      × ((d : Command Op) → In d (k.handed n) → d.key ≡ c.key → d ≡ c)
      × AreClientsOf owner z n (record k { handed = with_handed k.handed n c })
  handing s z session act c are h =
      let mine : c.key.session ≡ seat_session s.first h.place = ap (λ (q : Key). q.session) h.key ∙ h.has.number in
      let more : c.key.number ≡ h.seat.number + 1 = ap (λ (q : Key). q.number) h.key in
      let seat : Seat Op Reply = record { number = c.key.number; is_open = true; last = Some c; reply = None } in
      let same = set_length s.seats h.place seat in (
        ap owner mine ∙ are.owns h.place,
        λ d i e. absurd (let low = are.numbers d h.place h.seat i (ap (λ (q : Key). q.session) e ∙ mine) h.was in
            let number = ap (λ (q : Key). q.number) e in omega (arith, low, number, more)),
        subst (λ x. AreClientsOf owner x n (record k { handed = with_handed k.handed n c })) (sym h.becomes) (record {
          owns = are.owns;
          unused = λ d place i e low. ⊎_elim
              (λ (j : In d (k.handed n)). are.unused d place j e (omega (arith, low, same)))
              (λ (x : d ≡ c).
              let at = one_session s.first place h.place
              (sym e ∙ ap (λ (y : Command Op). y.key.session) x ∙ mine) in
              let within = h.has.within in absurd (omega (arith, low, same, at, within)))
              (handed_or k.handed n c d i);
          numbers = λ d place y i e was. ⊎_elim
              (λ (a : (place ≡ h.place) × (y ≡ seat)). ⊎_elim
              (λ (j : In d (k.handed n)).
              let low = are.numbers d h.place h.seat j (e ∙ ap (seat_session s.first) a.0) h.was in
              let is = ap (λ (x : Seat Op Reply). x.number) a.1 in omega (arith, low, is, more))
              (λ (x : d ≡ c).
              let number = ap (λ (q : Command Op). q.key.number) x in
              let is = ap (λ (x : Seat Op Reply). x.number) a.1 in omega (arith, number, is))
              (handed_or k.handed n c d i))
              (λ (b : (place ≢ h.place) × (slice_get s.seats place ≡ Some y)). ⊎_elim
              (λ (j : In d (k.handed n)). are.numbers d place y j e b.1)
              (λ (x : d ≡ c). absurd (b.0 (one_session s.first place h.place
              (sym e ∙ ap (λ (y : Command Op). y.key.session) x ∙ mine))))
              (handed_or k.handed n c d i))
              (set_cases s.seats h.place place seat y was);
          last = λ place y d was last. ⊎_elim
              (λ (a : (place ≡ h.place) × (y ≡ seat)).
              subst (λ x. In x (with_handed k.handed n c n))
              (same_Some c d (sym (ap (λ (x : Seat Op Reply). x.last) a.1) ∙ last)) (handed_last k.handed n c))
              (λ (b : (place ≢ h.place) × (slice_get s.seats place ≡ Some y)).
              handed_still k.handed n c n d (are.last place y d b.1 last))
              (set_cases s.seats h.place place seat y was);
          replies = λ place y d reply was last e. ⊎_elim
              (λ (a : (place ≡ h.place) × (y ≡ seat)). no_reply c y reply a.1 e)
              (λ (b : (place ≢ h.place) × (slice_get s.seats place ≡ Some y)).
              are.replies place y d reply b.1 last e)
              (set_cases s.seats h.place place seat y was);
          ends = λ d i e. ⊎_elim
              (λ (j : In d (k.handed n)). are.ends d j e)
              (λ (x : d ≡ c).
              let number = ap (λ (q : Command Op). q.key.number) x in let low = h.below in absurd (omega (arith, number, low, e)))
              (handed_or k.handed n c d i);
        }),
      )

  pub ending : (s : ClientsState Op Reply) (session : ℕ) (c : Command Op) → AreClientsOf owner s n k → owner session ≡ n
      → EndsEarlier s session c → (owner c.key.session ≡ n)
      × ((d : Command Op) → In d (k.handed n) → d.key ≡ c.key → d ≡ c)
      × AreClientsOf owner s n (record k { handed = with_handed k.handed n c })
  ending s session c are mine h =
      let its : c.key.session ≡ session = ap (λ (q : Key). q.session) h.key in
      let last : c.key.number ≡ last_number = ap (λ (q : Key). q.number) h.key in
      let elsewhere : (place : ℕ) → c.key.session ≡ seat_session s.first place → ⊥ = λ place e.
      let below = h.earlier.below in let steps = h.earlier.steps in omega (arith, e, its, below) in (
        ap owner its ∙ mine,
        λ d i e. same_command d c e (are.ends d i (ap (λ (q : Key). q.number) e ∙ last) ∙ sym h.end),
        record {
          owns = are.owns;
          unused = λ d place i e low. ⊎_elim
              (λ (j : In d (k.handed n)). are.unused d place j e low)
              (λ (x : d ≡ c). elsewhere place (sym (ap (λ (y : Command Op). y.key.session) x) ∙ e))
              (handed_or k.handed n c d i);
          numbers = λ d place seat i e was. ⊎_elim
              (λ (j : In d (k.handed n)). are.numbers d place seat j e was)
              (λ (x : d ≡ c). absurd (elsewhere place (sym (ap (λ (y : Command Op). y.key.session) x) ∙ e)))
              (handed_or k.handed n c d i);
          last = λ place seat d was is. handed_still k.handed n c n d (are.last place seat d was is);
          replies = are.replies;
          ends = λ d i e. ⊎_elim
              (λ (j : In d (k.handed n)). are.ends d j e)
              (λ (x : d ≡ c). ap (λ (y : Command Op). y.act) x ∙ h.end)
              (handed_or k.handed n c d i);
        },
      )

  pub hearing : (s z : ClientsState Op Reply) (answer : Answer Reply) → AreClientsOf owner s n k
      → In answer k.happenings.answers → HearsAnswer answer s z → AreClientsOf owner z n k
  hearing s _ answer are given (nowhere none) = are
  hearing s _ answer are given (there p seat has was) =
      let then : Seat Op Reply = heard answer seat in
      let same = set_length s.seats p then in
      record {
        owns = are.owns;
        unused = λ c place i e low. are.unused c place i e (omega (arith, low, same));
        numbers = λ c place y i e at. ⊎_elim
            (λ (a : (place ≡ p) × (y ≡ then)).
            let low = are.numbers c p seat i (e ∙ ap (seat_session s.first) a.0) was in
            let is = ap (λ (x : Seat Op Reply). x.number) a.1 in omega (arith, low, is))
            (λ (b : (place ≢ p) × (slice_get s.seats place ≡ Some y)). are.numbers c place y i e b.1)
            (set_cases s.seats p place then y at);
        last = λ place y c at last. ⊎_elim
            (λ (a : (place ≡ p) × (y ≡ then)).
            are.last p seat c was (sym (ap (λ (x : Seat Op Reply). x.last) a.1) ∙ last))
            (λ (b : (place ≢ p) × (slice_get s.seats place ≡ Some y)). are.last place y c b.1 last)
            (set_cases s.seats p place then y at);
        replies = λ place y c reply at last e. ⊎_elim
            (λ (a : (place ≡ p) × (y ≡ then)).
            by_reply answer given c reply seat.reply seat.last
            (sym (ap (λ (x : Seat Op Reply). x.last) a.1) ∙ last)
            (sym (ap (λ (x : Seat Op Reply). x.reply) a.1) ∙ e)
            (λ r. are.replies p seat c reply was (sym (ap (λ (x : Seat Op Reply). x.last) a.1) ∙ last) r))
            (λ (b : (place ≢ p) × (slice_get s.seats place ≡ Some y)). are.replies place y c reply b.1 last e)
            (set_cases s.seats p place then y at);
        ends = are.ends;
      }
    where
      to_it : (answer : Answer Reply) (c : Command Op) (reply : Reply) (b : Bool) → same_key c.key answer.to ≡ b
          → cond b (Some answer.reply) None ≡ Some reply → answer ≡ record { to = c.key; reply = reply }
      to_it answer c reply true e r =
          let key = same_is c.key answer.to e in let told = same_Some answer.reply reply r in
          λ i. record { to = sym key i; reply = told i }
      to_it answer c reply false e r = absurd (cc)

      by_reply : (answer : Answer Reply) → In answer k.happenings.answers → (c : Command Op) (reply : Reply)
          (had : Option Reply) (last : Option (Command Op)) → last ≡ Some c → first_of had (reply_if last answer) ≡ Some reply
          → (had ≡ Some reply → In (record { to = c.key; reply = reply }) k.happenings.answers)
          → In (record { to = c.key; reply = reply }) k.happenings.answers
      by_reply answer given c reply (Some r) last e is before = before is
      by_reply answer given c reply None last e is before =
          subst (λ a. In a k.happenings.answers)
          (to_it answer c reply (same_key c.key answer.to) refl (ap (λ l. reply_if l answer) (sym e) ∙ is)) given

  pub freeing : (s z : ClientsState Op Reply) (key : Key) → AreClientsOf owner s n k → Frees key s z
      → AreClientsOf owner z n k
  freeing s z key are f = subst (λ x. AreClientsOf owner x n k) (sym f.becomes)
      (emptied s f.place f.ends.seat (closed_seat f.ends.seat.number) (s.free ++ (f.place ∷ [])) are f.ends.was refl refl)

  pub going_on : (s : ClientsState Op Reply) (j : Hosts Op O Reply) → AreClientsOf owner s n k
      → j.handed n ≡ k.handed n → ((a : Answer Reply) → In a k.happenings.answers → In a j.happenings.answers)
      → AreClientsOf owner s n j
  going_on s j are same more = record {
    owns = are.owns;
    unused = λ c place i. are.unused c place (subst (In c) same i);
    numbers = λ c place seat i. are.numbers c place seat (subst (In c) same i);
    last = λ place seat c was last. subst (In c) (sym same) (are.last place seat c was last);
    replies = λ place seat c reply was last e. more (record { to = c.key; reply = reply })
        (are.replies place seat c reply was last e);
    ends = λ c i. are.ends c (subst (In c) same i);
  }
