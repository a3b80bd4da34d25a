-- What is so of recorded nodes that show a world.
use Rattle.std.proofs.Common.{◌≡◌, ℕ, ◌<◌, Bool, true, false, cond, List, [], ◌∷◌, ◌++◌, length, Option, Some, None, refl, sym, ap, subst, append-nil}
use Rattle.object.specs.declared.command.Command.{Command}
use Rattle.object.specs.declared.command.Key.{Key}
use Rattle.object.specs.Answers.{answered_key}
use Rattle.object.specs.Happenings.{Happenings, is_submitted, with_submission}
use Rattle.object.specs.Keys.{stands}
use Rattle.object.specs.Lists.{IsBeginning}
use Rattle.object.specs.Objects.{Rules}
use Rattle.ballot.specs.declared.letter.Letter.{Letter}
use Rattle.node.specs.Deeds.{outcome_of}
use Rattle.node.specs.declared.deed.Deed.{Deed}
use Rattle.network.specs.Networks.{node_of, mail_of, front, turn_of}
use Rattle.recorder.specs.Firsts.{firsts}
use Rattle.recorder.specs.Records.{Record, own_key, with_first_answers}
use Rattle.node.specs.Outcomes.{key_placed}
use Rattle.agreement.specs.Runs.{most_events}
use Rattle.agreement.specs.Worlds.{World, opening}
use Rattle.agreement.specs.declared.event.Event.{Event}
use Rattle.hall.specs.Recorded.{RecordedState, untouched, asked, done, with_place_if, without_front_letter, repeated}
use Rattle.hall.specs.Shows.{Shows, IsShown, Follows, FollowsDelivery, ShowsOn}
use Rattle.hall.specs.Explained.{IsBegun}
use Rattle.hall.proofs.Clusters.{opening_shows, lost_shows, repeated_shows}
use Rattle.hall.specs.HallLaws.{HallLaws}
use Rattle.hall.proofs.Placing.{placed_happenings}
use Rattle.hall.proofs.Told.{firsts_begin}

begins_itself : {X : Type 0} (xs : List X) → IsBeginning xs xs
begins_itself xs = ([], sym (append-nil xs))

module _ {O Op Reply : Type 0} (rules : Rules O Op Reply) (laws : HallLaws rules) where
  pub untouched_shown : (members : List ℕ) → IsShown rules (untouched members)
  untouched_shown members = (
    opening members,
    laws.opening members,
    record {
      cluster = opening_shows members;
      happenings = refl;
      order = ([], record { chosen = tt; count = refl }, refl);
      reach = refl;
      taken = refl;
    },
  )

  room_in : (k : RecordedState Op Reply) (w : World Op Reply) → Shows k w → k.taken < most_events → w.taken < most_events
  room_in k w s room = subst (λ t. t < most_events) s.taken room

  pub shown_next : (k z : RecordedState Op Reply) (e : Event Op) → Follows rules k e z → k.taken < most_events → IsShown rules k → IsShown rules z
  shown_next k z e follows room h =
      let next = follows h.0 h.1 h.2 in
      (next.0, laws.next h.0 next.0 e h.1 next.1 (room_in k h.0 h.2 room), next.2)

  pub shown_delivered : (k z : RecordedState Op Reply) (l : Letter (Command Op)) → FollowsDelivery rules k l z
      → k.taken < most_events → IsShown rules k → IsShown rules z
  shown_delivered k z l follows room h =
      let next = follows h.0 h.1 h.2 in
      (next.1, laws.next h.0 next.1 _ h.1 next.3 (room_in k h.0 h.2 room), next.4)

  pub shown_still : (k z : RecordedState Op Reply) → ShowsOn k z → IsShown rules k → IsShown rules z
  shown_still k z on h = (h.0, h.1, on h.0 h.2)

  pub lost_still : (k : RecordedState Op Reply) (n : ℕ) → ShowsOn k (without_front_letter k n)
  lost_still k n w s = record {
    cluster = lost_shows k.network w.cluster s.cluster n;
    happenings = s.happenings;
    order = s.order;
    reach = s.reach;
    taken = s.taken;
  }

  pub repeated_still : (k : RecordedState Op Reply) (n : ℕ) (l : Letter (Command Op)) → front (mail_of k.network n) ≡ Some l → ShowsOn k (repeated k n l)
  repeated_still k n l e w s = record {
    cluster = repeated_shows k.network w.cluster s.cluster n l e;
    happenings = s.happenings;
    order = s.order;
    reach = s.reach;
    taken = s.taken;
  }

  -- one submission more, or none
  module _ (c : Command Op) (h : Happenings Op Reply) where
    abbrev longer : Happenings Op Reply
    longer = record h { submitted = h.submitted ++ (record { command = c; after = length h.answers } ∷ []) }

    submitted_at : (b : Bool) → IsBeginning h.submitted (cond b h longer).submitted
    submitted_at true = begins_itself h.submitted
    submitted_at false = (_, refl)

    submitted_on : IsBeginning h.submitted (with_submission c h).submitted
    submitted_on = submitted_at (is_submitted c.key h.submitted)

    answers_at : (b : Bool) → (cond b h longer).answers ≡ h.answers
    answers_at true = refl
    answers_at false = refl

    answers_same : (with_submission c h).answers ≡ h.answers
    answers_same = answers_at (is_submitted c.key h.submitted)

  pub asked_begun : (k : RecordedState Op Reply) (n : ℕ) (c : Command Op) → IsBegun k.past (asked rules k n c).past
  asked_begun k n c = record {
    submitted = submitted_on c k.past.happenings;
    answers = subst (IsBeginning k.past.happenings.answers) (sym (answers_same c k.past.happenings)) (begins_itself k.past.happenings.answers);
    order = begins_itself k.past.order;
  }

  placed_on : (o : Option Key) (r : Record Op Reply) → IsBeginning r.order (with_place_if o r).order
  placed_on None r = begins_itself r.order
  placed_on (Some key) r = at (stands own_key key r.order)
    where
      at : (b : Bool) → IsBeginning r.order (cond b r (record r { order = r.order ++ (key ∷ []) })).order
      at true = begins_itself r.order
      at false = (key ∷ [], refl)

  pub done_begun : (k : RecordedState Op Reply) (n : ℕ) (d : Deed Op) → IsShown rules k → IsBegun k.past (done rules k n d).past
  done_begun k n d h =
      let o = key_placed k.reach (outcome_of (node_of k.network n) d) in
      let given = (turn_of rules k.network n d).answers in
      let r = with_first_answers given k.past in
      let same = placed_happenings o r in
      let was : k.past.happenings.answers ≡ firsts answered_key h.0.happenings.answers = ap (λ (g : Happenings Op Reply). g.answers) h.2.happenings in
      record {
        submitted = subst (λ (g : Happenings Op Reply). IsBeginning k.past.happenings.submitted g.submitted) (sym same)
            (begins_itself k.past.happenings.submitted);
        answers = subst (λ (g : Happenings Op Reply). IsBeginning k.past.happenings.answers g.answers) (sym same)
            (subst (λ xs. IsBeginning xs (firsts answered_key (xs ++ given))) (sym was)
            (subst (IsBeginning (firsts answered_key h.0.happenings.answers)) (laws.cut h.0.happenings.answers given)
            (firsts_begin answered_key h.0.happenings.answers given)));
        order = placed_on o r;
      }
