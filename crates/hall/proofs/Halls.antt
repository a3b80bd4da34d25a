-- A hall after each of its calls.
use Rattle.std.proofs.Common.{◌≡◌, ℕ, zero, suc, ◌+◌, ◌<◌, max, Bool, true, false, true≢false, cond, List, [], ◌∷◌}
use Rattle.std.proofs.Common.{◌++◌, length, Some, refl, sym, ap, ◌∙◌, subst, arith}
use Rattle.std.specs.Prelude.{slice_index_or}
use Rattle.std.specs.List.{range_with_len}
use Rattle.object.specs.Commands.{IsCommand, MayAsk}
use Rattle.object.specs.declared.command.Act.{Act}
use Rattle.object.specs.declared.command.Act.TheVariants.{Do, Close, Tick}
use Rattle.object.specs.declared.command.Command.{Command}
use Rattle.object.specs.declared.command.Key.{Key}
use Rattle.object.specs.declared.command.Submission.{Submission}
use Rattle.object.specs.Happenings.{Happenings, is_submitted, submitted_key, with_submission}
use Rattle.object.specs.KeyLaws.{same_is}
use Rattle.object.specs.Objects.{Rules}
use Rattle.ballot.specs.Members.{is_member}
use Rattle.ballot.specs.declared.letter.Letter.{Letter}
use Rattle.node.specs.Deeds.{outcome_of}
use Rattle.node.specs.declared.deed.Deed.{Deed}
use Rattle.network.specs.Networks.{node_of, mail_of, front, turn_of}
use Rattle.recorder.specs.Records.{with_first_answers}
use Rattle.node.specs.Outcomes.{key_placed}
use Rattle.agreement.specs.Runs.{most_events}
use Rattle.agreement.specs.Steps.{IsItsOwn}
use Rattle.agreement.specs.Events.{event_of}
use Rattle.agreement.specs.declared.event.Event.TheVariants.{Submit}
use Rattle.hall.specs.Recorded.{RecordedState, untouched, asked, done, HasReceived, IsOwnDeed}
use Rattle.hall.specs.Shows.{IsShown, Follows, ShowsOn}
use Rattle.hall.specs.Books.{last_second, last_number, with_number, IsNextKey, IsBooked}
use Rattle.hall.specs.Halls.{HallState, IsHall, new_hall, with_nodes, after_submit, tick_of, after_tick}
use Rattle.hall.specs.HallLaws.{HallLaws}
use Rattle.hall.proofs.Booking.{booked_later, booked_open, booked_next, booked_tick, next_new, second_push, second_beside, second_known, opened_bounds}
use Rattle.hall.proofs.Events.{asks_follow, deed_follows, receives_follow}
use Rattle.hall.proofs.Known.{key_stands}
use Rattle.hall.proofs.Lawful.{untouched_shown, shown_next, shown_delivered, shown_still}
use Rattle.hall.proofs.Placing.{placed_happenings}

-- session 0 asks for nothing but seconds
ticks : {Op : Type 0} (c : Command Op) → MayAsk c.key c.act → c.key.session ≡ 0 → c.act ≡ Tick
ticks {Op} c may e = at c.act may
  where
    at : (act : Act Op) → MayAsk c.key act → act ≡ Tick
    at (Do op) pos = absurd (omega (arith, e, pos))
    at Close pos = absurd (omega (arith, e, pos))
    at Tick own = refl

no_number : (book : List ℕ) (session : ℕ) → book ≡ [] → last_number book session ≡ 0
no_number book zero e = refl
no_number book (suc i) e = ap (λ b. slice_index_or b i 0) e

-- so one of its commands is another one where they have one key
pub clocks_own : {Op : Type 0} (c d : Command Op) → IsCommand c → IsCommand d → c.key.session ≡ 0 → c.key ≡ d.key → c ≡ d
clocks_own c d a b e same = λ i. record { key = same i; act = (ticks c a.allowed e ∙ sym (ticks d b.allowed (ap (λ (k : Key). k.session) (sym same) ∙ e))) i }

module _ {O Op Reply : Type 0} (rules : Rules O Op Reply) (h : HallState Op Reply) (is : IsHall rules h) where
  -- one session more
  pub opened_is : length h.book < 4294967295 → IsHall rules (record h { book = h.book ++ (0 ∷ []) })
  opened_is room = record {
    shown = is.shown;
    booked = booked_open h.book h.nodes.past.happenings.submitted h.nodes.taken room is.booked;
    clock = is.clock;
  }

  pub opened_as : (len : ℕ) → len ≡ length h.book → len < 4294967295 → (book : List ℕ) → book ≡ h.book ++ (0 ∷ []) → IsHall rules (record h { book = book })
  opened_as len count few book more = subst (λ xs. IsHall rules (record h { book = xs })) (sym more) (opened_is (omega (arith, count, few)))

module _ {O Op Reply : Type 0} (rules : Rules O Op Reply) (laws : HallLaws rules) where
  pub new_is : (members : List ℕ) → IsHall rules (new_hall members)
  new_is members = record {
    shown = untouched_shown rules laws members;
    booked = record {
      sessions = omega arith;
      numbers = λ session pos. ap (range_with_len 1) (sym (no_number [] session refl));
      few = λ session. let none = no_number [] session refl in omega (arith, none);
      commands = λ s i. absurd i;
    };
    clock = refl;
  }

  pub new_as : (members : List ℕ) (k : RecordedState Op Reply) (book : List ℕ) → k ≡ untouched members → book ≡ []
      → IsHall rules (record { nodes = k; book = book; second = 0 })
  new_as members k book same none = subst (IsHall rules) (λ i. record { nodes = sym same i; book = sym none i; second = 0 }) (new_is members)

  module _ (h : HallState Op Reply) (is : IsHall rules h) where
    -- a letter is lost or repeated
    pub still_is : (k : RecordedState Op Reply) → k.past ≡ h.nodes.past → k.taken ≡ h.nodes.taken → ShowsOn h.nodes k → IsHall rules (with_nodes h k)
    still_is k past taken on = record {
      shown = shown_still rules laws h.nodes k on is.shown;
      booked = subst (λ p. IsBooked h.book p.happenings.submitted k.taken) (sym past)
          (subst (λ t. IsBooked h.book h.nodes.past.happenings.submitted t) (sym taken) is.booked);
      clock = is.clock ∙ ap (λ p. last_second p.happenings.submitted) (sym past);
    }

    module _ (n : ℕ) (member : is_member h.nodes.network.members n ≡ true) (room : h.nodes.taken < most_events) where
      pub deed_event : (d : Deed Op) → IsOwnDeed d → Follows rules h.nodes (event_of n d) (done rules h.nodes n d)
      deed_event d own w i s = deed_follows rules laws h.nodes n member room w i s d own

      deed_submitted : (d : Deed Op) → (done rules h.nodes n d).past.happenings.submitted ≡ h.nodes.past.happenings.submitted
      deed_submitted d = ap (λ (g : Happenings Op Reply). g.submitted)
          (placed_happenings (key_placed h.nodes.reach (outcome_of (node_of h.nodes.network n) d))
          (with_first_answers (turn_of rules h.nodes.network n d).answers h.nodes.past))

      -- a node does something by itself
      pub deed_is : (d : Deed Op) → IsOwnDeed d → IsHall rules (with_nodes h (done rules h.nodes n d))
      deed_is d own = record {
        shown = shown_next rules laws h.nodes (done rules h.nodes n d) (event_of n d) (deed_event d own) room is.shown;
        booked = subst (λ xs. IsBooked h.book xs (h.nodes.taken + 1)) (sym (deed_submitted d))
            (booked_later h.book h.nodes.past.happenings.submitted h.nodes.taken (h.nodes.taken + 1)
            (omega arith) is.booked);
        clock = is.clock ∙ ap last_second (sym (deed_submitted d));
      }

      -- a letter is received
      pub received_is : (l : Letter (Command Op)) → front (mail_of h.nodes.network n) ≡ Some l
          → (k : RecordedState Op Reply) → HasReceived h.nodes n l k → IsHall rules (with_nodes h k)
      received_is l e k received = record {
        shown = shown_delivered rules laws h.nodes k l (receives_follow rules laws h.nodes n member l e k received) room is.shown;
        booked = subst (λ (q : RecordedState Op Reply). IsBooked h.book q.past.happenings.submitted q.taken)
            (sym received.2) (booked_later h.book h.nodes.past.happenings.submitted h.nodes.taken (h.nodes.taken + 1)
            (omega arith) is.booked);
        clock = is.clock ∙ ap (λ (q : RecordedState Op Reply). last_second q.past.happenings.submitted) (sym received.2);
      }

      asked_shown : (c : Command Op) → IsItsOwn c h.nodes.past.happenings.submitted → IsShown rules (asked rules h.nodes n c)
      asked_shown c own = shown_next rules laws h.nodes (asked rules h.nodes n c) (Submit n c) (asks_follow rules laws h.nodes n member c own) room is.shown

      stays : (c : Command Op) → is_submitted c.key h.nodes.past.happenings.submitted ≡ true
          → (with_submission c h.nodes.past.happenings).submitted ≡ h.nodes.past.happenings.submitted
      stays c known = ap (λ b. (cond b h.nodes.past.happenings
          (record h.nodes.past.happenings {
            submitted =
                h.nodes.past.happenings.submitted ++
                (record { command = c; after = length h.nodes.past.happenings.answers } ∷ []);
          })).submitted) known

      -- a command that was submitted before
      pub again_is : (c : Command Op) → IsItsOwn c h.nodes.past.happenings.submitted
          → is_submitted c.key h.nodes.past.happenings.submitted ≡ true
          → IsHall rules (with_nodes h (asked rules h.nodes n c))
      again_is c own known =
          let same = stays c known in
          record {
            shown = asked_shown c own;
            booked = subst (λ xs. IsBooked h.book xs (h.nodes.taken + 1)) (sym same)
                (booked_later h.book h.nodes.past.happenings.submitted h.nodes.taken (h.nodes.taken + 1)
                (omega arith) is.booked);
            clock = is.clock ∙ ap last_second (sym same);
          }

      pushed : (c : Command Op) → is_submitted c.key h.nodes.past.happenings.submitted ≡ false
          → (with_submission c h.nodes.past.happenings).submitted
          ≡ h.nodes.past.happenings.submitted ++
          (record { command = c; after = length h.nodes.past.happenings.answers } ∷ [])
      pushed c new = ap (λ b. (cond b h.nodes.past.happenings
          (record h.nodes.past.happenings {
            submitted =
                h.nodes.past.happenings.submitted ++
                (record { command = c; after = length h.nodes.past.happenings.answers } ∷ []);
          })).submitted) new

      -- what was not submitted yet is its own
      new_own : (c : Command Op) → is_submitted c.key h.nodes.past.happenings.submitted ≡ false → IsItsOwn c h.nodes.past.happenings.submitted
      new_own c new s i e = absurd (true≢false
          (sym (key_stands submitted_key c.key s h.nodes.past.happenings.submitted i (same_is s.command.key c.key e)) ∙
          new))

      module _ (c : Command Op) (next : IsNextKey h.book c.key) (command : IsCommand c) where
        new : is_submitted c.key h.nodes.past.happenings.submitted ≡ false
        new = next_new h.book h.nodes.past.happenings.submitted h.nodes.taken c.key is.booked next

        pub submit_event : Follows rules h.nodes (Submit n c) (asked rules h.nodes n c)
        submit_event = asks_follow rules laws h.nodes n member c (new_own c new)

        -- a session's next command
        pub submitted_is : IsHall rules (after_submit rules h n c)
        submitted_is =
            let s : Submission Op = record { command = c; after = length h.nodes.past.happenings.answers } in
            let more = pushed c new in
            let pos = (opened_bounds h.book c.key.session next.opened).0 in
            record {
              shown = asked_shown c (new_own c new);
              booked = subst (λ xs. IsBooked (with_number h.book c.key.session c.key.number) xs (h.nodes.taken + 1))
                  (sym more) (booked_next h.book h.nodes.past.happenings.submitted h.nodes.taken s is.booked next
                  command);
              clock = is.clock ∙ sym (second_beside h.nodes.past.happenings.submitted s (λ e. absurd (omega (arith, e, pos)))) ∙ ap last_second (sym more);
            }

      module _ (second : ℕ) (command : IsCommand {Op = Op} (tick_of second)) where
        tick_own : IsItsOwn (tick_of second) h.nodes.past.happenings.submitted
        tick_own s i e = let same = same_is s.command.key
            (record { session = 0; number = second }) e in clocks_own s.command (tick_of second)
            (is.booked.commands s i) command (ap (λ (k : Key). k.session) same) same

        pub tick_event : Follows rules h.nodes (Submit n (tick_of second)) (asked rules h.nodes n (tick_of second))
        tick_event = asks_follow rules laws h.nodes n member (tick_of second) tick_own

        tick_booked : (b : Bool) → is_submitted
            (record { session = 0; number = second }) h.nodes.past.happenings.submitted ≡ b
            → IsHall rules (after_tick rules h n second)
        tick_booked true known =
            let same = stays (tick_of second) known in
            record {
              shown = asked_shown (tick_of second) tick_own;
              booked = subst (λ xs. IsBooked h.book xs (h.nodes.taken + 1)) (sym same)
                  (booked_later h.book h.nodes.past.happenings.submitted h.nodes.taken (h.nodes.taken + 1)
                  (omega arith) is.booked);
              clock = ap (λ m. max m second) is.clock ∙ second_known h.nodes.past.happenings.submitted second known ∙ ap last_second (sym same);
            }
        tick_booked false new =
            let s : Submission Op = record { command = tick_of second; after = length h.nodes.past.happenings.answers } in
            let more = pushed (tick_of second) new in
            record {
              shown = asked_shown (tick_of second) tick_own;
              booked = subst (λ xs. IsBooked h.book xs (h.nodes.taken + 1)) (sym more)
                  (booked_tick h.book h.nodes.past.happenings.submitted h.nodes.taken s is.booked refl command);
              clock = ap (λ m. max m second) is.clock ∙ sym (second_push h.nodes.past.happenings.submitted s refl) ∙ ap last_second (sym more);
            }

        -- the clock shows a second
        pub ticked_is : IsHall rules (after_tick rules h n second)
        ticked_is = tick_booked (is_submitted (record { session = 0; number = second }) h.nodes.past.happenings.submitted) refl
