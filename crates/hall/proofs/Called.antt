-- A call that isn't refused, and what it does to the hall that calls see.
use Rattle.std.proofs.Common.{◌≡◌, ℕ, ◌<◌, Bool, true, false, true≢false, not, cond, Option, Some, None, refl, sym, ap, ◌∙◌, subst, arith}
use Rattle.std.specs.Prelude.{nat_le}
use Rattle.std.proofs.lemmas.Option.{none-some}
use Rattle.std.proofs.lemmas.Bool.Decides.{nat_tests}
use Rattle.object.specs.declared.command.Command.{Command}
use Rattle.object.specs.Objects.{Rules}
use Rattle.ballot.specs.Members.{is_member}
use Rattle.ballot.specs.declared.letter.Letter.{Letter}
use Rattle.network.specs.Networks.{mail_of, front}
use Rattle.agreement.specs.Runs.{most_events}
use Rattle.agreement.specs.declared.event.Event.{Event}
use Rattle.hall.specs.Recorded.{RecordedState, HasReceived, repeated}
use Rattle.hall.specs.Shows.{Follows, FollowsDelivery, ShowsOn}
use Rattle.hall.specs.Halls.{HallState, IsHall, with_nodes}
use Rattle.hall.specs.HallLaws.{HallLaws}
use Rattle.hall.specs.Refusals.{is_stranger, is_full, event_refusal}
use Rattle.hall.proofs.Events.{receives_follow}
use Rattle.hall.proofs.Halls.{received_is, still_is}
use Rattle.hall.proofs.Lawful.{repeated_still}

-- a test that refuses didn't
pub passed : {E : Type 0} (b : Bool) (e : E) (rest : Option E) → cond b (Some e) rest ≡ None → (b ≡ false) × (rest ≡ None)
passed true e rest h = absurd (none-some e (sym h))
passed false e rest h = (refl, h)

pub not_not : (b : Bool) → not b ≡ false → b ≡ true
not_not true h = refl
not_not false h = absurd (true≢false h)

pub below_most : (most taken : ℕ) → nat_le most taken ≡ false → taken < most
below_most most taken h = grind (arith, nat_tests)

module _ {Op Reply : Type 0} (v h : HallState Op Reply) (is : v ≡ h) where
  pub member_in : (n : ℕ) → is_stranger h n ≡ false → is_member v.nodes.network.members n ≡ true
  member_in n e = ap (λ (x : HallState Op Reply). is_member x.nodes.network.members n) is ∙ not_not (is_member h.nodes.network.members n) e

  pub room_in : is_full h ≡ false → v.nodes.taken < most_events
  room_in e = subst (λ (x : HallState Op Reply). x.nodes.taken < most_events) (sym is) (below_most most_events h.nodes.taken e)

  -- an event at a node
  module _ (n : ℕ) (none : event_refusal h n ≡ None) where
    parts : (is_stranger h n ≡ false) × (is_full h ≡ false)
    parts =
        let first = passed (is_stranger h n) _ _ none in
        (first.0, (passed (is_full h) _ _ first.1).0)

    pub event_member : is_member v.nodes.network.members n ≡ true
    event_member = member_in n parts.0

    pub event_room : v.nodes.taken < most_events
    event_room = room_in parts.1

  -- what follows what the fields have follows what calls see
  pub follows_in : {O : Type 0} (rules : Rules O Op Reply) (e : Event Op) (k z : RecordedState Op Reply) → z ≡ k
      → Follows rules v.nodes e k → Follows rules h.nodes e z
  follows_in rules e k z same f = subst (λ (x : HallState Op Reply). Follows rules x.nodes e z) is (subst (Follows rules v.nodes e) (sym same) f)

  pub shows_in : (k z : RecordedState Op Reply) → z ≡ k → ShowsOn v.nodes k → ShowsOn h.nodes z
  shows_in k z same f = subst (λ (x : HallState Op Reply). ShowsOn x.nodes z) is (subst (ShowsOn v.nodes) (sym same) f)

  pub received_in : (n : ℕ) (z : RecordedState Op Reply)
      → ((l : Letter (Command Op)) → front (mail_of v.nodes.network n) ≡ Some l → HasReceived v.nodes n l z)
      → (l : Letter (Command Op)) → front (mail_of h.nodes.network n) ≡ Some l → (k : RecordedState Op Reply)
      × HasReceived h.nodes n l k × (with_nodes v z ≡ with_nodes h k)
  received_in n z ok = subst (λ (x : HallState Op Reply). (l : Letter (Command Op))
      → front (mail_of x.nodes.network n) ≡ Some l → (k : RecordedState Op Reply) × HasReceived x.nodes n l k
      × (with_nodes v z ≡ with_nodes x k)) is (λ l e. (z, ok l e, refl))

module _ {O Op Reply : Type 0} (rules : Rules O Op Reply) (laws : HallLaws rules) (v : HallState Op Reply)
    (hall : IsHall rules v) (n : ℕ) (z : RecordedState Op Reply)
    (none : front (mail_of v.nodes.network n) ≡ None → z ≡ v.nodes) where
  same_hall : z ≡ v.nodes → IsHall rules (with_nodes v z)
  same_hall e = subst (λ k. IsHall rules (with_nodes v k)) (sym e) hall

  -- whether there was a letter or not
  pub delivered_is : is_member v.nodes.network.members n ≡ true → v.nodes.taken < most_events
      → ((l : Letter (Command Op)) → front (mail_of v.nodes.network n) ≡ Some l → HasReceived v.nodes n l z)
      → IsHall rules (with_nodes v z)
  delivered_is member room ok =
      elim (front (mail_of v.nodes.network n)) as (λ o. front (mail_of v.nodes.network n) ≡ o → IsHall rules (with_nodes v z)) [
        | None ↦ λ e. same_hall (none e)
        | Some l ↦ λ e. received_is rules laws v hall n member room l e z (ok l e)
      ] refl

  pub delivered_follows : is_member v.nodes.network.members n ≡ true
      → ((l : Letter (Command Op)) → front (mail_of v.nodes.network n) ≡ Some l → HasReceived v.nodes n l z)
      → (h : HallState Op Reply) → v ≡ h → (l : Letter (Command Op)) → front (mail_of h.nodes.network n) ≡ Some l
      → FollowsDelivery rules h.nodes l z
  delivered_follows member ok h is =
      subst (λ (x : HallState Op Reply). (l : Letter (Command Op)) → front (mail_of x.nodes.network n) ≡ Some l
      → FollowsDelivery rules x.nodes l z) is (λ l e. receives_follow rules laws v.nodes n member l e z (ok l e))

  pub repeated_shows_on : ((l : Letter (Command Op)) → front (mail_of v.nodes.network n) ≡ Some l → z ≡ repeated v.nodes n l) → ShowsOn v.nodes z
  repeated_shows_on ok =
      elim (front (mail_of v.nodes.network n)) as (λ o. front (mail_of v.nodes.network n) ≡ o → ShowsOn v.nodes z) [
        | None ↦ λ e. subst (ShowsOn v.nodes) (sym (none e)) (λ w s. s)
        | Some l ↦ λ e. subst (ShowsOn v.nodes) (sym (ok l e)) (repeated_still rules laws v.nodes n l e)
      ] refl

  pub repeated_past : ((l : Letter (Command Op)) → front (mail_of v.nodes.network n) ≡ Some l
      → z ≡ repeated v.nodes n l) → (z.past ≡ v.nodes.past) × (z.taken ≡ v.nodes.taken)
  repeated_past ok =
      elim (front (mail_of v.nodes.network n)) as (λ o. front (mail_of v.nodes.network n) ≡ o → (z.past ≡ v.nodes.past) × (z.taken ≡ v.nodes.taken)) [
        | None ↦ λ e. (ap (λ (k : RecordedState Op Reply). k.past) (none e), ap (λ (k : RecordedState Op Reply). k.taken) (none e))
        | Some l ↦ λ e. (ap (λ (k : RecordedState Op Reply). k.past) (ok l e), ap (λ (k : RecordedState Op Reply). k.taken) (ok l e))
      ] refl

  pub repeated_is : ((l : Letter (Command Op)) → front (mail_of v.nodes.network n) ≡ Some l → z ≡ repeated v.nodes n l) → IsHall rules (with_nodes v z)
  repeated_is ok = let p = repeated_past ok in still_is rules laws v hall z p.0 p.1 (repeated_shows_on ok)
