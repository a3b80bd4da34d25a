-- What a call makes of the hall is what the world's event makes of what it keeps.
use Rattle.std.proofs.Common.{◌≡◌, ◌<◌, ◌≤◌, ◌+◌, ◌^◌, ℕ, Bool, true, false, cond, not, List, length, Option, Some}
use Rattle.std.proofs.Common.{None, ◌⊎◌, inl, inr, ⊎_elim, refl, sym, ap, ◌∙◌, subst, arith}
use Rattle.std.specs.Prelude.{nat_le}
use Rattle.std.proofs.lemmas.Bool.Decides.{nat_tests}
use Rattle.object.specs.Happenings.{is_submitted}
use Rattle.object.specs.Lists.{In}
use Rattle.object.specs.Objects.{Rules}
use Rattle.object.specs.declared.command.Answer.{Answer}
use Rattle.object.specs.declared.command.Command.{Command}
use Rattle.object.specs.declared.command.Key.{Key}
use Rattle.ballot.specs.Members.{is_member}
use Rattle.ballot.specs.Rests.{rest_of_body}
use Rattle.ballot.specs.declared.letter.Letter.{Letter}
use Rattle.ballot.specs.declared.letter.LetterBody.{LetterBody}
use Rattle.node.specs.Holding.{outcome_held}
use Rattle.node.specs.Outcomes.{reach_after, key_placed}
use Rattle.node.specs.declared.deed.Deed.{Deed}
use Rattle.node.specs.declared.deed.Outcome.{Outcome}
use Rattle.network.specs.Networks.{front, mail_of, node_of}
use Rattle.agreement.specs.Events.{event_of}
use Rattle.agreement.specs.Runs.{most_events, IsWorld}
use Rattle.agreement.specs.Steps.{Step}
use Rattle.agreement.specs.Worlds.{World}
use Rattle.agreement.specs.declared.event.Event.{Event}
use Rattle.agreement.specs.declared.event.Event.TheVariants.{Deliver}
use Rattle.hall.specs.declared.error.HallError.TheVariants.{NoSuchNode, Full}
use Rattle.lean_network.specs.LeanNetworks.{LeanState, states, lean_node_of, lean_mail_of, lean_turn_of}
use Rattle.lean_network.specs.LeanNetworks.{lean_without_front, acted_lean, forgotten_lean, IsLeanDelivered}
use Rattle.lean_network.specs.Receipts.{receipt_of, receipt_of_rest}
use Rattle.lean_network.proofs.States.{state_at, states_forgotten, kept_object, delivered_object, delivered_states}
use Rattle.client_table.specs.Clients.{Summary, with_replies, with_effect}
use Rattle.forgetting_hall.specs.Gathered.{Gathering}
use Rattle.forgetting_hall.specs.Halls.{ForgettingState, IsForgettingHall, FollowsIn, FollowsLeft, ShowsStill, IsCounted, IsLeastOut, rest_of_hall, is_received}
use Rattle.forgetting_hall.specs.Refusing.{refusal_of_event, has_all_events}
use Rattle.forgetting_hall.specs.Rests.{HallRest, ShowsWorld, FollowsEvent, FollowsLetterOf, IsGoingOn, IsReceivedRest}
use Rattle.forgetting_hall.specs.Rests.{fresh_answers, done_rest, forgotten_rest, lost_rest}
use Rattle.forgetting_hall.proofs.Counting.{room_for}
use Rattle.forgetting_hall.proofs.Forget.{forgotten_same}
use Rattle.forgetting_hall.proofs.Keeping.{all_nodes, lost_still}
use Rattle.forgetting_hall.proofs.Turning.{after_deed, deed_is}

-- a member, where nothing is refused, and room for an event more
allowed : (a b : Bool) → cond (not a) (Some NoSuchNode) (cond b (Some Full) None) ≡ None → (a ≡ true) × (b ≡ false)
allowed true true e = absurd (cc)
allowed true false e = (refl, refl)
allowed false b e = absurd (cc)

below : (a b : ℕ) → nat_le a b ≡ false → b < a
below a b e = grind (arith, nat_tests, e)

module _ {O Op Reply : Type 0} (h : ForgettingState Op O Reply) (n : ℕ) (none : refusal_of_event h n ≡ None) where
  pub event_member : is_member h.network.members n ≡ true
  event_member = (allowed (is_member h.network.members n) (has_all_events h) none).0

  pub event_room : h.taken < most_events
  event_room = below most_events h.taken (allowed (is_member h.network.members n) (has_all_events h) none).1

-- what every world becomes
abbrev pub Next : {O Op Reply : Type 0} → Rules O Op Reply → Type 0
Next {O} {Op} {Reply} rules = (w v : World Op Reply) (e : Event Op) → IsWorld rules w → Step rules w e v → w.taken < most_events → IsWorld rules v

abbrev pub Known : {O Op Reply : Type 0} → Rules O Op Reply → Type 0
Known {O} {Op} {Reply} rules = (w : World Op Reply) → IsWorld rules w → (a : Answer Reply) → In a w.happenings.answers →
    is_submitted a.to w.happenings.submitted ≡ true

module _ {O Op Reply : Type 0} (rules : Rules O Op Reply) (h : ForgettingState Op O Reply) (n : ℕ) where
  -- what a node does by itself
  abbrev pub Acts : Type 0
  Acts = (q : HallRest Op O Reply) (w : World Op Reply) (m : ℕ) (d : Deed Op) → IsWorld rules w → ShowsWorld rules q w
      → is_member q.network.members m ≡ true → IsGoingOn d → FollowsEvent rules w (event_of m d) (done_rest rules q m d)

  module _ (acts : Acts) (d : Deed Op) (own : IsGoingOn d) (member : is_member h.network.members n ≡ true) where
    pub deed_follows : (g : Gathering Op) → FollowsIn rules h (event_of n d) (after_deed rules h n d g)
    deed_follows g w i s = subst (FollowsEvent rules w (event_of n d)) (sym (deed_is rules h n d own g (all_nodes rules h w s) member))
        (acts (rest_of_hall rules h) w n d i s member own)

    -- its answers can be counted
    pub room_to_tell : Next rules → Known rules → IsForgettingHall rules h → h.taken < most_events
        → h.summary.answered + length (fresh_answers h.reach (outcome_held (lean_node_of rules h.network n) d) (lean_turn_of rules h.network
        n d).answers) < 2 ^ 64
    room_to_tell next known is room =
        let f = deed_follows h.gathering is.shown.0 is.shown.1 is.shown.2 in
        let world = next is.shown.0 f.0 (event_of n d) is.shown.1 f.1 (subst (λ t. t < most_events) is.shown.2.taken room) in
        room_for h.summary h.opened h.taken is.counted room
        (fresh_answers h.reach (outcome_held (lean_node_of rules h.network n) d) (lean_turn_of rules h.network n d).answers)
        (key_placed h.reach (outcome_held (lean_node_of rules h.network n) d))
        f.0.happenings f.2.summary (known f.0 world)

  -- the hall, once its parts have become these
  pub deed_became : (d : Deed Op) (k : LeanState Op O) (o : Outcome) (xs : List (Answer Reply)) (t u : Summary Op Reply) (key : Option Key)
      (r : ℕ) (g : Gathering Op)
      → k ≡ acted_lean rules h.network n d → o ≡ outcome_held (lean_node_of rules h.network n) d
      → xs ≡ fresh_answers h.reach o (lean_turn_of rules h.network n d).answers → t ≡ with_replies xs h.summary
      → key ≡ key_placed h.reach o → u ≡ with_effect key t → r ≡ reach_after h.reach o
      → record { network = k; base = h.base; summary = u; opened = h.opened; reach = r; taken = h.taken + 1; gathering = g } ≡ after_deed rules h n d g
  deed_became d k o xs t u key r g nodes outcome fresh told placed effect reached =
      let replies : t ≡ with_replies (fresh_answers h.reach (outcome_held (lean_node_of rules h.network n) d) (lean_turn_of rules h.network
      n d).answers) h.summary =
      told ∙ ap (λ ys. with_replies ys h.summary) (fresh ∙ ap (λ p. fresh_answers h.reach p (lean_turn_of rules h.network n d).answers) outcome) in
      let summary : u ≡ (after_deed rules h n d g).summary =
      effect ∙ ap (λ q. with_effect q t) (placed ∙ ap (key_placed h.reach) outcome)
      ∙ ap (with_effect (key_placed h.reach (outcome_held (lean_node_of rules h.network n) d))) replies in
      let reach : r ≡ reach_after h.reach (outcome_held (lean_node_of rules h.network n) d) = reached ∙ ap (reach_after h.reach) outcome in
      λ i. record { network = nodes i; base = h.base; summary = summary i; opened = h.opened; reach = reach i; taken = h.taken + 1; gathering = g }

  -- what is left of a letter is received
  pub received_is : (l : Letter (Command Op)) (left : LetterBody (Command Op)) (k : LeanState Op O) → IsLeanDelivered rules h.network n l left k
      → IsReceivedRest (rest_of_hall rules h) n l left (rest_of_hall rules (record h { network = k; taken = h.taken + 1 }))
  received_is l left k r = (
    states k,
    delivered_states rules h.network k n l left r,
    λ i. record (rest_of_hall rules (record h { network = k; taken = h.taken + 1 })) { objects = λ m. delivered_object rules h.network k n m l left r i },
  )

  pub left_follows : ((q z : HallRest Op O Reply) (w : World Op Reply) (m : ℕ) (l : Letter (Command Op)) (left : LetterBody (Command Op)) → IsWorld rules w
      → ShowsWorld rules q w → is_member q.network.members m ≡ true → front (mail_of q.network m) ≡ Some l → rest_of_body q.base l.body ≡ Some left
      → IsReceivedRest q m l left z → FollowsLetterOf rules w q.base m l left z)
      → is_member h.network.members n ≡ true → (l : Letter (Command Op)) (left : LetterBody (Command Op)) (k : LeanState Op O)
      → front (lean_mail_of h.network n) ≡ Some l → rest_of_body h.base l.body ≡ Some left → IsLeanDelivered rules h.network n l left k
      → FollowsLeft rules h n l left (record h { network = k; taken = h.taken + 1 })
  left_follows receives member l left k at was r w i s =
      receives (rest_of_hall rules h) (rest_of_hall rules (record h { network = k; taken = h.taken + 1 })) w n l left i s member at was (received_is l left k r)

module _ {O Op Reply : Type 0} (rules : Rules O Op Reply) (h : ForgettingState Op O Reply) where
  -- nothing more is forgotten at the same base
  pub forgotten_already : IsForgettingHall rules h → rest_of_hall rules h ≡ forgotten_rest (rest_of_hall rules h) h.base
  forgotten_already is = ap (λ k. record (rest_of_hall rules h) { network = k })
      (sym (forgotten_same h.base (states h.network) is.shown.0.cluster is.shown.2.cluster))

  -- slots are forgotten
  pub forgotten_is : (base : ℕ) (k : LeanState Op O) → k ≡ forgotten_lean base h.network
      → rest_of_hall rules (record h { network = k; base = base }) ≡ forgotten_rest (rest_of_hall rules h) base
  forgotten_is base k e =
      ap (λ (q : LeanState Op O). rest_of_hall rules (record h { network = q; base = base })) e
      ∙ (λ i. record (forgotten_rest (rest_of_hall rules h) base) {
        network = states_forgotten base h.network i;
        objects = λ n. kept_object rules base h.network n i;
      })

  pub forgotten_still : ((q : HallRest Op O Reply) (w : World Op Reply) (base : ℕ) → IsWorld rules w → ShowsWorld rules q w → q.base ≤ base
      → ((n : ℕ) → is_member q.network.members n ≡ true → base ≤ (node_of q.network n).replica.slot_out) → ShowsWorld rules (forgotten_rest q base) w)
      → (base : ℕ) → IsLeastOut rules h base → (k : LeanState Op O) → k ≡ forgotten_lean base h.network
      → ShowsStill rules h (record h { network = k; base = base })
  forgotten_still forgets base least k e w i s = subst (λ q. ShowsWorld rules q w) (sym (forgotten_is base k e))
      (forgets (rest_of_hall rules h) w base i s
      (reached w s)
      (λ n member. subst (λ x. base ≤ x.replica.slot_out) (sym (state_at rules h.network n)) (least.least n member)))
    where
      reached : (w : World Op Reply) → ShowsWorld rules (rest_of_hall rules h) w → h.base ≤ base
      reached w s =
          let past = s.cluster.past least.node least.member in
          let kept = ap (λ b. b.slot_out) (s.cluster.nodes least.node least.member).replica in
          let here = ap (λ x. x.replica.slot_out) (state_at rules h.network least.node) in
          let out = least.out in
          omega (arith, past, kept, here, out)

-- what was left of a letter was received
pub received_from : {C : Type 0} (base : ℕ) (o : Option (Letter C)) → is_received (receipt_of base o) ≡ true
    → (l : Letter C) × (left : LetterBody C) × (o ≡ Some l) × (rest_of_body base l.body ≡ Some left)
received_from base None e = absurd (cc)
received_from {C = C} base (Some l) e = at (rest_of_body base l.body) refl e
  where
    at : (o : Option (LetterBody C)) → rest_of_body base l.body ≡ o → is_received (receipt_of_rest o) ≡ true
        → (k : Letter C) × (left : LetterBody C) × (Some l ≡ Some k) × (rest_of_body base k.body ≡ Some left)
    at None f e = absurd (cc)
    at (Some left) f e = (l, left, refl, f)

-- or nothing was
pub dropped_from : {C : Type 0} (base : ℕ) (o : Option (Letter C)) → is_received (receipt_of base o) ≡ false
    → (o ≡ None) ⊎ ((l : Letter C) × (o ≡ Some l) × (rest_of_body base l.body ≡ None))
dropped_from base None e = inl refl
dropped_from {C = C} base (Some l) e = at (rest_of_body base l.body) refl e
  where
    at : (o : Option (LetterBody C)) → rest_of_body base l.body ≡ o → is_received (receipt_of_rest o) ≡ false
        → (Some l ≡ None) ⊎ ((k : Letter C) × (Some l ≡ Some k) × (rest_of_body base k.body ≡ None))
    at None f e = inr (l, refl, f)
    at (Some left) f e = absurd (cc)

module _ {O Op Reply : Type 0} (rules : Rules O Op Reply) (h : ForgettingState Op O Reply) (n : ℕ) where
  -- the nodes then
  pub dropped_still : ((q : HallRest Op O Reply) (w : World Op Reply) (m : ℕ) → IsWorld rules w → ShowsWorld rules q w → ShowsWorld rules (lost_rest q m) w)
      → (k : LeanState Op O) → is_received (receipt_of h.base (front (lean_mail_of h.network n))) ≡ false
      → ((l : Letter (Command Op)) → front (lean_mail_of h.network n) ≡ Some l → rest_of_body h.base l.body ≡ None → k ≡ lean_without_front h.network n)
      → (front (lean_mail_of h.network n) ≡ None → k ≡ h.network) → ShowsStill rules h (record h { network = k })
  dropped_still loses k unread forgotten none w i s = ⊎_elim
      (λ (e : front (lean_mail_of h.network n) ≡ None). subst (λ q. ShowsWorld rules (rest_of_hall rules (record h { network = q })) w) (sym (none e)) s)
      (λ (e : (l : Letter (Command Op)) × (front (lean_mail_of h.network n) ≡ Some l) × (rest_of_body h.base l.body ≡ None)).
      lost_still rules h loses n k (forgotten e.0 e.1 e.2) w i s)
      (dropped_from h.base (front (lean_mail_of h.network n)) unread)

  -- a letter is delivered: the hall goes on
  pub goes_on_left : Next rules → (l : Letter (Command Op)) (left : LetterBody (Command Op)) (z : ForgettingState Op O Reply) →
      IsForgettingHall rules h → h.taken < most_events
      → FollowsLeft rules h n l left z → IsCounted z.summary z.opened z.taken → IsForgettingHall rules z
  goes_on_left next l left z is room follows counted =
      let f = follows is.shown.0 is.shown.1 is.shown.2 in record {
        shown = (f.5.0, next is.shown.0 f.5.0 (Deliver f.0) is.shown.1 f.5.1 (subst (λ t. t < most_events) is.shown.2.taken room), f.5.2);
        counted = counted;
      }
