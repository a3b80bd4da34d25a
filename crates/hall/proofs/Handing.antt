-- Commands that are handed in.
use Rattle.std.proofs.Common.{◌≡◌, ℕ, zero, suc, ◌+◌, ◌-◌, ◌<◌, ◌≤◌, max, true, false, true≢false, not, List, Option}
use Rattle.std.proofs.Common.{Some, None, refl, sym, ap, ◌∙◌, subst, arith}
use Rattle.std.specs.Prelude.{◌^◌, slice_set, SomeIff, IsSome}
use Rattle.std.proofs.lemmas.Option.{none-some}
use Rattle.object.specs.Commands.{IsCommand, MayAsk}
use Rattle.object.specs.declared.command.Act.{Act}
use Rattle.object.specs.declared.command.Act.TheVariants.{Do, Close, Tick}
use Rattle.object.specs.declared.command.Command.{Command}
use Rattle.object.specs.declared.command.Key.{Key}
use Rattle.object.specs.Objects.{Rules}
use Rattle.ballot.specs.Members.{is_member}
use Rattle.agreement.specs.Runs.{most_events}
use Rattle.hall.specs.Books.{last_number, with_number, IsNextKey}
use Rattle.hall.specs.Halls.{HallState, IsHall, tick_of}
use Rattle.hall.specs.HallLaws.{HallLaws}
use Rattle.hall.specs.Recorded.{RecordedState, asked}
use Rattle.hall.specs.Refusals.{is_stranger, is_full, is_second, tick_refusal}
use Rattle.hall.specs.Tickets.{is_tick}
use Rattle.hall.proofs.Booking.{opened_bounds}
use Rattle.hall.proofs.Called.{passed, member_in, room_in}
use Rattle.hall.proofs.Halls.{submitted_is, ticked_is}

pub some_if : {T : Type 0} (r : Option T) (P : Type 0) (v : T) → SomeIff r P v → P → IsSome r
some_if None P v none p = absurd (none p)
some_if (Some x) P v some p = refl

pub value_if : {T : Type 0} (r : Option T) (P : Type 0) (v x : T) → SomeIff r P v → r ≡ Some x → P × (x ≡ v)
value_if None P v x none e = absurd (none-some x e)
value_if {T} (Some y) P v x some e = (some.0, sym (inside e) ∙ some.1)
  where
    inside : Some y ≡ Some x → y ≡ x
    inside h = cc

-- an act that is no second of the clock may be asked for by a session
may_ask : {Op : Type 0} (key : Key) (act : Act Op) → 0 < key.session → is_tick act ≡ false → MayAsk key act
may_ask key (Do op) pos own = pos
may_ask key Close pos own = pos
may_ask key Tick pos own = absurd (true≢false own)

pub number_at : (book : List ℕ) (session number : ℕ) → 0 < session → slice_set book (session - 1) number ≡ with_number book session number
number_at book zero number h = absurd (omega (arith, h))
number_at book (suc i) number h = let here : suc i - 1 ≡ i = omega arith in ap (λ j. slice_set book j number) here

within : (number last taken : ℕ) → number ≡ last + 1 → last ≤ taken → taken < most_events → number ≤ 2 ^ 62
within number last taken e few room = omega (arith, e, few, room)

module _ {O Op Reply : Type 0} (rules : Rules O Op Reply) (laws : HallLaws rules) (v h : HallState Op Reply) (is : v ≡ h) (hall : IsHall rules v) where
  pub member_there : (n : ℕ) → is_member h.nodes.network.members n ≡ true → is_member v.nodes.network.members n ≡ true
  member_there n member = subst (λ (x : HallState Op Reply). is_member x.nodes.network.members n ≡ true) (sym is) member

  -- a session's next command
  module _ (key : Key) (act : Act Op) (next : IsNextKey h.book key) (own : is_tick act ≡ false) (room : h.nodes.taken < most_events) where
    pub next_in : IsNextKey v.book key
    next_in = subst (λ (x : HallState Op Reply). IsNextKey x.book key) (sym is) next

    pub room_there : v.nodes.taken < most_events
    room_there = subst (λ (x : HallState Op Reply). x.nodes.taken < most_events) (sym is) room

    pub command_is : IsCommand {Op = Op} (record { key = key; act = act })
    command_is =
        let number = next_in.number in
        let few = hall.booked.few key.session in
        record {
          above = omega (arith, number);
          within = within key.number (last_number v.book key.session) v.nodes.taken number few room_there;
          allowed = may_ask key act (opened_bounds v.book key.session next_in.opened).0 own;
        }

    pub next_is : (n : ℕ) → is_member h.nodes.network.members n ≡ true → (k : RecordedState Op Reply) (c : Command Op)
        → c ≡ record { key = key; act = act } → k ≡ asked rules v.nodes n c → (book : List ℕ)
        → book ≡ slice_set v.book (key.session - 1) key.number
        → IsHall rules (record { nodes = k; book = book; second = v.second })
    next_is n member k c made e book set =
        let there = member_there n member in
        let now : k ≡ asked rules v.nodes n (record { key = key; act = act }) = e ∙ ap (asked rules v.nodes n) made in
        let at : book ≡ with_number v.book key.session key.number =
        set ∙ number_at v.book key.session key.number (opened_bounds v.book key.session next_in.opened).0 in
        subst (IsHall rules) (λ i. record { nodes = sym now i; book = sym at i; second = v.second })
        (submitted_is rules laws v hall n there room_there (record { key = key; act = act }) next_in command_is)

  -- a second of the clock
  module _ (second n : ℕ) (none : tick_refusal h second n ≡ None) where
    clear : (is_stranger h n ≡ false) × (is_full h ≡ false)
    clear =
        let first = passed (is_stranger h n) _ _ none in
        let next = passed (not (is_second second)) _ _ first.1 in
        (first.0, (passed (is_full h) _ _ next.1).0)

    pub tick_member : is_member v.nodes.network.members n ≡ true
    tick_member = member_in v h is n clear.0

    pub tick_room : v.nodes.taken < most_events
    tick_room = room_in v h is clear.1

    pub tick_is : IsCommand {Op = Op} (tick_of second) → (k : RecordedState Op Reply) (c : Command Op)
        → c ≡ tick_of second → k ≡ asked rules v.nodes n c → (last : ℕ) → last ≡ max v.second second
        → IsHall rules (record { nodes = k; book = v.book; second = last })
    tick_is command k c made e last greatest =
        let now : k ≡ asked rules v.nodes n (tick_of second) = e ∙ ap (asked rules v.nodes n) made in
        subst (IsHall rules) (λ i. record { nodes = sym now i; book = v.book; second = sym greatest i })
        (ticked_is rules laws v hall n tick_member tick_room second command)
