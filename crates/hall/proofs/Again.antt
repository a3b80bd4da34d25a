-- A ticket's last command, handed in again.
use Rattle.std.proofs.Common.{◌≡◌, inl, inr, ℕ, ◌<◌, Bool, true, false, true≢false, not, cond, List, [], ◌∷◌, ◌++◌, map}
use Rattle.std.proofs.Common.{length, Option, Some, None, refl, sym, ap, ◌∙◌, subst}
use Rattle.std.specs.Prelude.{◌&&◌, is_some}
use Rattle.std.proofs.lemmas.Option.{none-some}
use Rattle.std.proofs.lemmas.Bool.{and_parts}
use Rattle.object.specs.Commands.{IsCommand, same_acts}
use Rattle.object.specs.declared.command.Act.{Act}
use Rattle.object.specs.declared.command.Act.TheVariants.{Do, Close, Tick}
use Rattle.object.specs.declared.command.Command.{Command}
use Rattle.object.specs.declared.command.Key.{Key}
use Rattle.object.specs.declared.command.Submission.{Submission}
use Rattle.object.specs.Happenings.{Happenings, is_submitted, submitted_key, SubmittedOnce}
use Rattle.object.specs.Keys.{found, same_key}
use Rattle.object.specs.KeyLaws.{same_is}
use Rattle.object.specs.Lists.{In}
use Rattle.object.specs.Objects.{Rules}
use Rattle.ballot.specs.Members.{is_member}
use Rattle.agreement.specs.Runs.{most_events}
use Rattle.agreement.specs.Steps.{IsItsOwn}
use Rattle.agreement.specs.declared.event.Event.TheVariants.{Submit}
use Rattle.hall.specs.declared.ticket.NotedAct.{NotedAct}
use Rattle.hall.specs.HallLaws.{HallLaws}
use Rattle.hall.specs.Halls.{HallState, IsHall, with_nodes}
use Rattle.hall.specs.Recorded.{RecordedState, asked}
use Rattle.hall.specs.Refusals.{is_stranger, is_full, is_last, is_own, has_act, is_submitted_as, resubmit_refusal}
use Rattle.hall.specs.Shows.{Follows}
use Rattle.hall.specs.Tickets.{TicketState, last_key, last_noted, last_command}
use Rattle.hall.proofs.Called.{passed, not_not, member_in, room_in}
use Rattle.hall.proofs.Events.{asks_follow}
use Rattle.hall.proofs.Explains.{mapped_from}
use Rattle.hall.proofs.Halls.{again_is}
use Rattle.hall.proofs.Known.{key_stands}
use Rattle.hall.proofs.Told.{once_one, told_at}

pub acts_same : {Op : Type 0} (same : Op → Op → Bool) → ((x y : Op) → same x y ≡ true → x ≡ y) → (a b : Act Op) → same_acts same a b ≡ true → a ≡ b
acts_same same exact (Do o) (Do p) h = ap Do (exact o p h)
acts_same same exact (Do o) Close h = absurd (true≢false (sym h))
acts_same same exact (Do o) Tick h = absurd (true≢false (sym h))
acts_same same exact Close (Do p) h = absurd (true≢false (sym h))
acts_same same exact Close Close h = refl
acts_same same exact Close Tick h = absurd (true≢false (sym h))
acts_same same exact Tick (Do p) h = absurd (true≢false (sym h))
acts_same same exact Tick Close h = absurd (true≢false (sym h))
acts_same same exact Tick Tick h = refl

-- what is found stands in the list, under the key
found_at : {X : Type 0} (key_of : X → Key) (key : Key) (x : X) (xs : List X) → found key_of key xs ≡ Some x → In x xs × (key_of x ≡ key)
found_at key_of key x [] e = absurd (none-some x e)
found_at {X} key_of key x (y ∷ ys) e = at (same_key (key_of y) key) refl (λ h. found_at key_of key x ys h) e
  where
    at : (b : Bool) → same_key (key_of y) key ≡ b → (found key_of key ys ≡ Some x → In x ys × (key_of x ≡ key))
        → cond b (Some y) (found key_of key ys) ≡ Some x → In x (y ∷ ys) × (key_of x ≡ key)
    at true s more h = let same : y ≡ x = cc in (inl (sym same), subst (λ z. key_of z ≡ key) same (same_is (key_of y) key s))
    at false s more h = let r = more h in (inr r.0, r.1)

pub once_told : {Op Reply : Type 0} (h : Happenings Op Reply) (xs : List (Submission Op)) → SubmittedOnce xs → SubmittedOnce (map (told_at h.answers) xs)
once_told h [] once = tt
once_told h (x ∷ xs) once = (
  λ y i e. let was =
      mapped_from (told_at h.answers) y xs i in once.0 was.0 was.1
      (ap submitted_key (sym was.2) ∙ e),
  once_told h xs once.1,
)

module _ {O Op Reply : Type 0} (rules : Rules O Op Reply) (laws : HallLaws rules) (same : Op → Op → Bool)
    (exact : (x y : Op) → same x y ≡ true → x ≡ y) (v h : HallState Op Reply) (is : v ≡ h) (hall : IsHall rules v)
    (t : TicketState Op Reply) (n : ℕ) (none : resubmit_refusal same h t n ≡ None) (a : NotedAct Op Reply)
    (last : last_noted t ≡ Some a) where
  clear : (is_stranger h n ≡ false) × (is_own same h t ≡ true) × (is_full h ≡ false)
  clear =
      let first = passed (is_stranger h n) _ _ none in
      let next = passed (not (is_own same h t)) _ _ first.1 in
      (first.0, not_not (is_own same h t) next.0, sym (ap (λ o. is_some o && is_full h) last) ∙ (passed (is_some (last_noted t) && is_full h) _ _ next.1).0)

  pub again_member : is_member v.nodes.network.members n ≡ true
  again_member = member_in v h is n clear.0

  pub again_room : v.nodes.taken < most_events
  again_room = room_in v h is clear.2

  abbrev own_act : Bool
  own_act = is_submitted_as same h t (last_noted t)

  -- the last act stands under the last key
  has_last : has_act same a.act (found submitted_key (last_key t) v.nodes.past.happenings.submitted) ≡ true
  has_last =
      ap (λ (x : HallState Op Reply). has_act same a.act (found submitted_key (last_key t) x.nodes.past.happenings.submitted)) is
      ∙ ap (is_submitted_as same h t) (sym last)
      ∙ (and_parts (is_last h (last_key t)) own_act clear.1).1

  found_one : (o : Option (Submission Op)) → has_act same a.act o ≡ true → (s : Submission Op) × (o ≡ Some s)
  found_one None e = absurd (true≢false (sym e))
  found_one (Some s) e = (s, refl)

  -- the submission of it
  one : (s : Submission Op) × (found submitted_key (last_key t) v.nodes.past.happenings.submitted ≡ Some s)
  one = found_one (found submitted_key (last_key t) v.nodes.past.happenings.submitted) has_last

  abbrev s : Submission Op
  s = one.0

  at : found submitted_key (last_key t) v.nodes.past.happenings.submitted ≡ Some s
  at = one.1

  there : In s v.nodes.past.happenings.submitted × (s.command.key ≡ last_key t)
  there = found_at submitted_key (last_key t) s v.nodes.past.happenings.submitted at

  last_is : s.command ≡ last_command t a.act
  last_is = λ i. record { key = there.1 i; act = acts_same same exact s.command.act a.act (sym (ap (has_act same a.act) at) ∙ has_last) i }

  pub last_command_is : IsCommand {Op = Op} (last_command t a.act)
  last_command_is = subst (λ (q : Command Op). IsCommand q) last_is (hall.booked.commands s there.0)

  once : SubmittedOnce v.nodes.past.happenings.submitted
  once = let shown = hall.shown in subst (λ (g : Happenings Op Reply). SubmittedOnce g.submitted)
      (sym shown.2.happenings) (once_told shown.0.happenings shown.0.happenings.submitted (laws.once shown.0 shown.1))

  own : IsItsOwn s.command v.nodes.past.happenings.submitted
  own u i e = ap (λ (q : Submission Op). q.command)
      (once_one submitted_key v.nodes.past.happenings.submitted once u s i there.0
      (same_is u.command.key s.command.key e))

  known : is_submitted s.command.key v.nodes.past.happenings.submitted ≡ true
  known = key_stands submitted_key s.command.key s v.nodes.past.happenings.submitted there.0 refl

  same_past : (asked rules v.nodes n s.command).past ≡ v.nodes.past
  same_past = stays (is_submitted s.command.key v.nodes.past.happenings.submitted) known
    where
      stays : (b : Bool) → b ≡ true → record v.nodes.past {
        happenings =
            cond b v.nodes.past.happenings
            (record v.nodes.past.happenings {
              submitted =
                  v.nodes.past.happenings.submitted ++
                  (record { command = s.command; after = length v.nodes.past.happenings.answers } ∷ []);
            });
      } ≡ v.nodes.past
      stays true e = refl
      stays false e = absurd (true≢false (sym e))

  module _ (c : Command Op) (made : c ≡ last_command t a.act) (k : RecordedState Op Reply) (e : k ≡ asked rules v.nodes n c) where
    as_asked : k ≡ asked rules v.nodes n s.command
    as_asked = e ∙ ap (asked rules v.nodes n) (made ∙ sym last_is)

    pub again_hall : IsHall rules (with_nodes v k)
    again_hall = subst (λ q. IsHall rules (with_nodes v q)) (sym as_asked) (again_is rules laws v hall n again_member again_room s.command own known)

    pub again_ok : with_nodes v k ≡ with_nodes h (asked rules h.nodes n (last_command t a.act))
    again_ok = ap (with_nodes v) (e ∙ ap (asked rules v.nodes n) made) ∙ ap
        (λ (x : HallState Op Reply). with_nodes x (asked rules x.nodes n (last_command t a.act))) is

    pub again_follows : Follows rules h.nodes (Submit n (last_command t a.act)) k
    again_follows =
        subst (λ (x : HallState Op Reply). Follows rules x.nodes (Submit n (last_command t a.act)) k) is
        (subst (λ q. Follows rules v.nodes (Submit n q) k) last_is
        (subst (Follows rules v.nodes (Submit n s.command)) (sym as_asked) (asks_follow rules laws v.nodes n again_member s.command own)))

    pub again_past : k.past ≡ h.nodes.past
    again_past = ap (λ (q : RecordedState Op Reply). q.past) as_asked ∙ same_past ∙ ap (λ (x : HallState Op Reply). x.nodes.past) is

  -- and as it is made of the ticket
  pub made_last : (key : Key) → key ≡ last_key t → (act : Act Op) → act ≡ a.act → IsCommand {Op = Op} (record { key = key; act = act })
  made_last key k act e = subst (λ (q : Command Op). IsCommand q) (λ i. record { key = sym k i; act = sym e i }) last_command_is

-- one of two acts that are the last is the other
pub last_one : {X : Type 0} (o : Option X) (x y : X) → o ≡ Some x → o ≡ Some y → x ≡ y
last_one o x y e f = inside (sym e ∙ f)
  where
    inside : Some x ≡ Some y → x ≡ y
    inside h = cc
