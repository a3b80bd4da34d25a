-- What a node may do and receive; and what it answers and performs was submitted.
use Rattle.std.proofs.Common.{◌≡◌, inl, inr, ℕ, ◌+◌, ◌<◌, Bool, true, false, ◌||◌, List, [], ◌∷◌, ◌++◌, Option, Some, None, refl, sym, ap, ◌∙◌, subst}
use Rattle.std.specs.Option.{option_to_list}
use Rattle.std.proofs.lemmas.Option.{none-some}
use Rattle.object.specs.declared.command.Answer.{Answer}
use Rattle.object.specs.declared.command.Command.{Command}
use Rattle.object.specs.declared.command.Key.{Key}
use Rattle.object.specs.Happenings.{Happenings, is_submitted, submitted_key}
use Rattle.object.specs.Keys.{same_key, stands}
use Rattle.object.specs.KeyLaws.{same_when}
use Rattle.object.specs.Legal.{WasSubmitted}
use Rattle.object.specs.Lists.{In}
use Rattle.object.specs.ListLaws.{In-right}
use Rattle.object.specs.Objects.{Rules}
use Rattle.object.specs.Replays.{kept}
use Rattle.ballot.specs.Members.{is_member}
use Rattle.ballot.specs.declared.letter.Letter.{Letter}
use Rattle.slot_log.specs.Decisions.{next_decided}
use Rattle.slot_log.specs.Proposals.{next_proposal}
use Rattle.node.specs.Nodes.{NodeState}
use Rattle.node.specs.Deeds.{performing, outcome_of, IsAble}
use Rattle.node.specs.Receiving.{IsFit}
use Rattle.node.specs.declared.deed.Deed.{Deed}
use Rattle.node.specs.declared.deed.Deed.TheVariants as deeds
use Rattle.network.specs.Networks.{node_of, mail_of, front, turn_of}
use Rattle.agreement.specs.Nodes.{node}
use Rattle.agreement.specs.Worlds.{World}
use Rattle.node.specs.Outcomes.{key_placed}
use Rattle.agreement.specs.Reached.{HasPlaced}
use Rattle.agreement.specs.Runs.{most_events, IsWorld}
use Rattle.agreement.specs.Steps.{Step, perform, after_performing}
use Rattle.agreement.specs.Events.{event_of}
use Rattle.hall.specs.Recorded.{RecordedState, IsOwnDeed}
use Rattle.hall.specs.Shows.{Shows}
use Rattle.hall.proofs.Clusters.{front_sent}
use Rattle.hall.proofs.Events.{there, number_in, same_answers, same_outcome, no_key}
use Rattle.hall.proofs.Explains.{mapped_from}
use Rattle.hall.specs.HallLaws.{HallLaws}
use Rattle.hall.proofs.Told.{told_submitted}

-- what is in the list has its key there
pub key_stands : {X : Type 0} (key_of : X → Key) (key : Key) (x : X) (xs : List X) → In x xs → key_of x ≡ key → stands key_of key xs ≡ true
key_stands key_of key x [] i e = absurd i
key_stands key_of key x (y ∷ ys) (inl same) e = ap (λ b. b || stands key_of key ys) (same_when (key_of y) key (ap key_of (sym same) ∙ e))
key_stands key_of key x (y ∷ ys) (inr i) e = later (same_key (key_of y) key) (key_stands key_of key x ys i e)
  where
    later : (b : Bool) → stands key_of key ys ≡ true → (b || stands key_of key ys) ≡ true
    later true h = refl
    later false h = h

module _ {O Op Reply : Type 0} (rules : Rules O Op Reply) (laws : HallLaws rules) (k : RecordedState Op Reply)
    (w : World Op Reply) (i : IsWorld rules w) (s : Shows k w) (n : ℕ)
    (member : is_member k.network.members n ≡ true) where
  abbrev x : NodeState (Command Op)
  x = node w.cluster n

  -- a letter in front of the mail
  pub fit_there : (l : Letter (Command Op)) → front (mail_of k.network n) ≡ Some l → IsFit (node_of k.network n) l.body
  fit_there l e =
      let was = front_sent k.network w.cluster s.cluster n l e in
      let place = number_in l w.cluster.letters was.0 in
      laws.fit (node_of k.network n) x l.body (s.cluster.nodes n member)
      (subst (λ m. IsFit (node w.cluster m) l.body) was.1 (laws.letters w i place.0 l place.1).fit)

  module _ (room : k.taken < most_events) where
    room_there : w.taken < most_events
    room_there = subst (λ t. t < most_events) s.taken room

    able_at : (d : Deed Op) → IsAble x d
    able_at (deeds.Request c) = tt
    able_at deeds.Wake = tt
    able_at deeds.Nudge = tt
    able_at deeds.Propose = tt
    able_at deeds.Perform = tt
    able_at deeds.Restart = laws.boots w i n room_there

    pub able_there : (d : Deed Op) → IsAble (node_of k.network n) d
    able_there d = laws.able (node_of k.network n) x d (s.cluster.nodes n member) (able_at d)

    -- the world after node n performed
    abbrev next : Option (Command Op)
    next = next_decided x.replica

    abbrev v : World Op Reply
    v = record (after_performing rules w n x.replica next) { taken = (after_performing rules w n x.replica next).taken + 1 }

    step : Step rules w (event_of n deeds.Perform) v
    step = perform n (there rules laws k.network w i s.cluster n member)

    world : IsWorld rules v
    world = laws.next w v (event_of n deeds.Perform) i step room_there

    submitted_same : (o : Option (Command Op)) → (after_performing rules w n x.replica o).happenings.submitted ≡ w.happenings.submitted
    submitted_same None = refl
    submitted_same (Some c) = refl

    -- what is submitted then is submitted now, and here
    known : (key : Key) → is_submitted key v.happenings.submitted ≡ true → is_submitted key k.past.happenings.submitted ≡ true
    known key h =
        ap (λ (g : Happenings Op Reply). is_submitted key g.submitted) s.happenings
        ∙ told_submitted w.happenings key
        ∙ ap (is_submitted key) (sym (submitted_same next))
        ∙ h

    given_then : (o : Option (Command Op)) (a : Answer Reply) → In a (performing rules x o).answers
        → In a (after_performing rules w n x.replica o).happenings.answers
    given_then None a j = absurd j
    given_then (Some c) a j = In-right a w.happenings.answers (performing rules x (Some c)).answers j

    -- what is performed past the reach takes effect then
    placed_then : (key : Key) → key_placed w.reach (outcome_of x deeds.Perform) ≡ Some key → is_submitted key v.happenings.submitted ≡ true
    placed_then key e =
        let has : HasPlaced v (k.past.order ++ (key ∷ [])) =
        subst (λ o. HasPlaced v (k.past.order ++ option_to_list o)) e
        (laws.placed w v (event_of n deeds.Perform) k.past.order i step s.order) in
        let c = mapped_from (λ (c : Command Op). c.key) key (kept has.0) (subst (In key) has.2 (In-right key k.past.order (key ∷ []) (inl refl))) in
        let was : WasSubmitted c.0 v.happenings.submitted = (laws.legal_so_far v world has.0 has.1).submitted c.0 c.1 in
        key_stands submitted_key key was.0 v.happenings.submitted was.1 (ap (λ (d : Command Op). d.key) was.2 ∙ sym c.2)

    pub answered_there : (d : Deed Op) → IsOwnDeed d → (a : Answer Reply) → In a (turn_of rules k.network n d).answers
        → is_submitted a.to k.past.happenings.submitted ≡ true
    answered_there (deeds.Request c) own a j = absurd own
    answered_there deeds.Wake own a j = absurd j
    answered_there deeds.Nudge own a j = absurd j
    answered_there deeds.Propose own a j = absurd j
    answered_there deeds.Perform own a j =
        known a.to (laws.answered_known v world a (given_then next a (subst (In a) (same_answers rules laws k.network w i s.cluster n member deeds.Perform) j)))
    answered_there deeds.Restart own a j = absurd j

    pub placed_there : (d : Deed Op) → IsOwnDeed d → (key : Key)
        → key_placed k.reach (outcome_of (node_of k.network n) d) ≡ Some key
        → is_submitted key k.past.happenings.submitted ≡ true
    placed_there (deeds.Request c) own key e = absurd own
    placed_there deeds.Wake own key e = absurd (none-some key e)
    placed_there deeds.Nudge own key e = absurd (none-some key e)
    placed_there deeds.Propose own key e = absurd (none-some key (sym (no_key k.reach (next_proposal (node_of k.network n).replica)) ∙ e))
    placed_there deeds.Perform own key e =
        known key (placed_then key ((λ j. key_placed (sym s.reach j) (sym (same_outcome rules laws k.network w i s.cluster n member deeds.Perform) j)) ∙ e))
    placed_there deeds.Restart own key e = absurd (none-some key e)
