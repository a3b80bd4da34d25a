-- Recorded nodes that show a world show its next one.
use Rattle.std.proofs.Common.{◌≡◌, inl, inr, ℕ, suc, ◌+◌, ◌<◌, ◌≤◌, true, List, [], ◌∷◌, ◌++◌, length, Option, Some}
use Rattle.std.proofs.Common.{None, refl, sym, ap, ap₂, ◌∙◌, subst, append-nil, arith}
use Rattle.std.specs.Prelude.{slice_get}
use Rattle.std.specs.Option.{option_to_list}
use Rattle.object.specs.declared.command.Answer.{Answer}
use Rattle.object.specs.declared.command.Command.{Command}
use Rattle.object.specs.declared.command.Key.{Key}
use Rattle.object.specs.Happenings.{Happenings, with_submission, with_answers}
use Rattle.object.specs.Lists.{In}
use Rattle.object.specs.ListLaws.{In-map}
use Rattle.object.specs.Objects.{Rules}
use Rattle.ballot.specs.Members.{is_member}
use Rattle.ballot.specs.declared.letter.Letter.{Letter}
use Rattle.slot_log.specs.Decisions.{next_decided}
use Rattle.slot_log.specs.Proposals.{next_proposal}
use Rattle.node.specs.Nodes.{NodeState, number_of}
use Rattle.node.specs.Deeds.{Turn, acted, performing, performs, done_if, outcome_of}
use Rattle.node.specs.PlaceLaws.{node_put_same, node_put_other}
use Rattle.node.specs.Receiving.{ShowsNode, Receives}
use Rattle.node.specs.declared.deed.Deed.{Deed}
use Rattle.node.specs.declared.deed.Deed.TheVariants as deeds
use Rattle.network.specs.Networks.{NetworkState, node_of, mail_of, front, turn_of, turned_net, acted_net, without_front}
use Rattle.recorder.specs.Records.{with_first_answers}
use Rattle.agreement.specs.Nodes.{node, turned}
use Rattle.agreement.specs.Worlds.{World}
use Rattle.node.specs.Outcomes.{reach_after, key_placed}
use Rattle.agreement.specs.Placing.{placed_after}
use Rattle.agreement.specs.Reached.{HasPlaced}
use Rattle.agreement.specs.Runs.{most_events, IsWorld}
use Rattle.agreement.specs.Steps.{Step, IsItsOwn, submit, deliver, wake, nudge, propose, perform, restart, after_performing, counted, with_cluster}
use Rattle.agreement.specs.Events.{event_of}
use Rattle.agreement.specs.declared.event.Event.{Event}
use Rattle.agreement.specs.declared.event.Event.TheVariants.{Deliver}
use Rattle.hall.specs.Recorded.{RecordedState, asked, done, HasReceived, IsOwnDeed}
use Rattle.hall.specs.Shows.{ShowsCluster, Shows, Follows, FollowsDelivery, told_once}
use Rattle.hall.proofs.Clusters.{member_bounds, turned_shows, lost_shows, front_sent}
use Rattle.hall.specs.HallLaws.{HallLaws}
use Rattle.hall.proofs.Placing.{placed_happenings, placed_order, first_answers_told}
use Rattle.hall.proofs.Told.{told_at, told_submission}

-- a command that comes with its own key does so in the world
own_there : {Op Reply : Type 0} (g h : Happenings Op Reply) → g ≡ told_once h → (c : Command Op) → IsItsOwn c g.submitted → IsItsOwn c h.submitted
own_there {Op} g h same c own t i e =
    own (told_at h.answers t) (subst (λ (x : Happenings _ _). In (told_at h.answers t) x.submitted) (sym same)
    (In-map (told_at h.answers) t h.submitted i)) e

-- no answers are given
no_answers : {Op Reply : Type 0} (h : Happenings Op Reply) → h ≡ with_answers [] h
no_answers h = λ i. record { submitted = h.submitted; answers = sym (append-nil h.answers) i }

-- the letter has a number
pub number_in : {A : Type 0} (x : A) (xs : List A) → In x xs → (i : ℕ) × (slice_get xs i ≡ Some x)
number_in x [] i = absurd i
number_in x (y ∷ ys) (inl e) = (0, ap Some (sym e))
number_in x (y ∷ ys) (inr i) = let r = number_in x ys i in (suc r.0, r.1)

-- what a deed is that only proposes or does nothing leaves
no_reach : {X : Type 0} (reach : ℕ) (o : Option X) → reach ≡ reach_after reach (done_if o)
no_reach reach None = refl
no_reach reach (Some x) = refl

pub no_key : {X : Type 0} (reach : ℕ) (o : Option X) → key_placed reach (done_if o) ≡ None
no_key reach None = refl
no_key reach (Some x) = refl

module _ {O Op Reply : Type 0} (rules : Rules O Op Reply) (laws : HallLaws rules) where
  -- node n of a network has its turn in the world
  module _ (k : NetworkState (Command Op)) (w : World Op Reply) (i : IsWorld rules w) (s : ShowsCluster k w.cluster)
      (n : ℕ) (member : is_member k.members n ≡ true) where
    pub there : is_member w.cluster.members n ≡ true
    there = subst (λ ms. is_member ms n ≡ true) s.members member

    in_place : (1 ≤ n) × (n ≤ length w.cluster.nodes)
    in_place = let b = member_bounds w.cluster.members n there in let size = (laws.nodes w i n there).size in (b.0, omega (arith, b.1))

    here : (y : NodeState (Command Op)) (out : List (Letter (Command Op))) → node (turned w.cluster n y out) n ≡ y
    here y out = node_put_same w.cluster.members w.cluster.nodes n y in_place.0 in_place.1

    -- the cluster's turn is shown
    pub turn_shows : (x : NodeState (Command Op)) (sent : List (Letter (Command Op))) (y : NodeState (Command Op))
        (out : List (Letter (Command Op))) → ShowsNode x y → sent ≡ out
        → ShowsCluster (turned_net k n x sent) (turned w.cluster n y out)
    turn_shows x sent y out is same =
        turned_shows k w.cluster (turned w.cluster n y out) s n member x (subst (ShowsNode x) (sym (here y out)) is) sent refl
        (λ m apart. node_put_other w.cluster.members w.cluster.nodes n y m apart)
        (ap (λ ls. w.cluster.letters ++ ls) (sym same))

    -- and so is a cluster that stays as it is, where the node's turn came to nothing
    pub still_shows : (x : NodeState (Command Op)) (sent : List (Letter (Command Op))) → ShowsNode x (node w.cluster n)
        → sent ≡ [] → ShowsCluster (turned_net k n x sent) w.cluster
    still_shows x sent is none =
        turned_shows k w.cluster w.cluster s n member x is sent refl (λ m apart. refl)
        (sym (append-nil w.cluster.letters) ∙ ap (λ ls. w.cluster.letters ++ ls) (sym none))

    module _ (d : Deed Op) where
      shown : ShowsNode (node_of k n) (node w.cluster n)
      shown = s.nodes n member

      -- the node's turn, and the world's
      abbrev pub world_turn : Turn Op Reply
      world_turn = acted rules w.cluster.members n (node w.cluster n) d

      same : turn_of rules k n d ≡ acted rules w.cluster.members n (node_of k n) d
      same = ap (λ ms. acted rules ms n (node_of k n) d) s.members

      pub same_state : ShowsNode (turn_of rules k n d).state world_turn.state
      same_state = subst (λ (t : Turn Op Reply). ShowsNode t.state world_turn.state) (sym same)
          ((laws.turn w.cluster.members n (node_of k n) (node w.cluster n) d shown).state)

      pub same_sent : (turn_of rules k n d).sent ≡ world_turn.sent
      same_sent = ap (λ (t : Turn Op Reply). t.sent) same ∙ (laws.turn w.cluster.members n (node_of k n) (node w.cluster n) d shown).sent

      pub same_answers : (turn_of rules k n d).answers ≡ world_turn.answers
      same_answers = ap (λ (t : Turn Op Reply). t.answers) same ∙ (laws.turn w.cluster.members n (node_of k n) (node w.cluster n) d shown).answers

      pub same_outcome : outcome_of (node_of k n) d ≡ outcome_of (node w.cluster n) d
      same_outcome = laws.outcome (node_of k n) (node w.cluster n) d shown

      pub acts_shows : ShowsCluster (acted_net rules k n d) (turned w.cluster n world_turn.state world_turn.sent)
      acts_shows = turn_shows (turn_of rules k n d).state (turn_of rules k n d).sent world_turn.state world_turn.sent same_state same_sent

  module _ (k : RecordedState Op Reply) (n : ℕ) (member : is_member k.network.members n ≡ true) where
    -- a node is asked for a command
    pub asks_follow : (c : Command Op) → IsItsOwn c k.past.happenings.submitted → Follows rules k (event_of n (deeds.Request c)) (asked rules k n c)
    asks_follow c own w i s = (
      _,
      submit n c (there k.network w i s.cluster n member) (own_there k.past.happenings w.happenings s.happenings c own),
      record {
        cluster = acts_shows k.network w i s.cluster n member (deeds.Request c);
        happenings = ap (with_submission c) s.happenings ∙ sym (told_submission c w.happenings);
        order = laws.placed w _ (event_of n (deeds.Request c)) k.past.order i
            (submit n c (there k.network w i s.cluster n member)
            (own_there k.past.happenings w.happenings s.happenings c own)) s.order;
        reach = s.reach;
        taken = ap (λ t. t + 1) s.taken;
      },
    )

    -- a world after what node n did by itself
    module _ (d : Deed Op) (w v : World Op Reply) (i : IsWorld rules w) (j : IsWorld rules v) (s : Shows k w)
        (cluster : ShowsCluster (acted_net rules k.network n d) v.cluster)
        (happenings : v.happenings ≡ with_answers (acted rules w.cluster.members n (node w.cluster n) d).answers w.happenings)
        (reach : v.reach ≡ reach_after w.reach (outcome_of (node w.cluster n) d))
        (taken : v.taken ≡ w.taken + 1)
        (placed : HasPlaced v (k.past.order ++ option_to_list (key_placed w.reach (outcome_of (node w.cluster n) d)))) where
      abbrev given : List (Answer Reply)
      given = (turn_of rules k.network n d).answers

      abbrev key : Option Key
      key = key_placed k.reach (outcome_of (node_of k.network n) d)

      same_key : key ≡ key_placed w.reach (outcome_of (node w.cluster n) d)
      same_key = ap₂ key_placed s.reach (same_outcome k.network w i s.cluster n member d)

      order_now : HasPlaced v (k.past.order ++ option_to_list key)
      order_now = subst (λ o. HasPlaced v (k.past.order ++ option_to_list o)) (sym same_key) placed

      pub done_shows : Shows (done rules k n d) v
      done_shows = record {
        cluster = cluster;
        happenings =
            placed_happenings key (with_first_answers given k.past)
            ∙ first_answers_told laws.cut k.past w.happenings given s.happenings (laws.timeline w i)
            ∙ ap (λ answers. told_once (with_answers answers w.happenings)) (same_answers k.network w i s.cluster n member d)
            ∙ ap told_once (sym happenings);
        order = subst (HasPlaced v) (sym (placed_order key (with_first_answers given k.past) (laws.placed_once v j _ order_now))) order_now;
        reach = ap₂ reach_after s.reach (same_outcome k.network w i s.cluster n member d) ∙ sym reach;
        taken = ap (λ t. t + 1) s.taken ∙ sym taken;
      }

    -- the world after node n performed, or not
    module _ (w : World Op Reply) (i : IsWorld rules w) (s : Shows k w) where
      abbrev x : NodeState (Command Op)
      x = node w.cluster n

      performing_shows : (o : Option (Command Op)) (y : NodeState (Command Op)) (sent : List (Letter (Command Op)))
          → ShowsNode y (performing rules x o).state → sent ≡ (performing rules x o).sent
          → ShowsCluster (turned_net k.network n y sent) (after_performing rules w n x.replica o).cluster
      performing_shows None y sent is same = still_shows k.network w i s.cluster n member y sent is same
      performing_shows (Some c) y sent is same = turn_shows k.network w i s.cluster n member y sent _ [] is same

      performing_happenings : (o : Option (Command Op))
          → (after_performing rules w n x.replica o).happenings
          ≡ with_answers (performing rules x o).answers w.happenings
      performing_happenings None = no_answers w.happenings
      performing_happenings (Some c) = refl

      performing_reach : (o : Option (Command Op)) → (after_performing rules w n x.replica o).reach ≡ reach_after w.reach (performs x.replica o)
      performing_reach None = refl
      performing_reach (Some c) = refl

      performing_taken : (o : Option (Command Op)) → (after_performing rules w n x.replica o).taken ≡ w.taken
      performing_taken None = refl
      performing_taken (Some c) = refl

    -- what node n does by itself
    module _ (room : k.taken < most_events) (w : World Op Reply) (i : IsWorld rules w) (s : Shows k w) where
      member_there : is_member w.cluster.members n ≡ true
      member_there = there k.network w i s.cluster n member

      room_there : w.taken < most_events
      room_there = subst (λ t. t < most_events) s.taken room

      world_next : (v : World Op Reply) (e : Event Op) → Step rules w e v → IsWorld rules v
      world_next v e step = laws.next w v e i step room_there

      -- without an answer, and with nothing performed
      quiet_shows : (d : Deed Op) (v : World Op Reply) → Step rules w (event_of n d) v
          → ShowsCluster (acted_net rules k.network n d) v.cluster → v.happenings ≡ w.happenings
          → (acted rules w.cluster.members n (node w.cluster n) d).answers ≡ []
          → v.reach ≡ reach_after w.reach (outcome_of (node w.cluster n) d) → v.taken ≡ w.taken + 1
          → placed_after w (event_of n d) k.past.order ≡ k.past.order
          → key_placed w.reach (outcome_of (node w.cluster n) d) ≡ None → Shows (done rules k n d) v
      quiet_shows d v step cluster same none reach taken stays quiet =
          done_shows d w v i (world_next v (event_of n d) step) s cluster
          (same ∙ no_answers w.happenings ∙ ap (λ answers. with_answers answers w.happenings) (sym none))
          reach taken
          (subst (HasPlaced v) (sym (append-nil k.past.order) ∙ ap (λ o. k.past.order ++ option_to_list o) (sym quiet))
          (subst (HasPlaced v) stays (laws.placed w v (event_of n d) k.past.order i step s.order)))

      pub deed_follows : (d : Deed Op) → IsOwnDeed d → (v : World Op Reply) × Step rules w (event_of n d) v × Shows (done rules k n d) v
      deed_follows (deeds.Request c) own = absurd own
      deed_follows deeds.Wake own =
          let step = wake n member_there in
          (_, step, quiet_shows deeds.Wake _ step (acts_shows k.network w i s.cluster n member deeds.Wake) refl refl refl refl refl refl)
      deed_follows deeds.Nudge own =
          let step = nudge n member_there in
          (_, step, quiet_shows deeds.Nudge _ step (acts_shows k.network w i s.cluster n member deeds.Nudge) refl refl refl refl refl refl)
      deed_follows deeds.Propose own =
          let step = propose n member_there in
          let next = next_proposal (node w.cluster n).replica in (
            _,
            step,
            quiet_shows deeds.Propose _ step
                (acts_shows k.network w i s.cluster n member deeds.Propose) refl refl (no_reach w.reach next) refl refl
                (no_key w.reach next),
          )
      deed_follows deeds.Perform own =
          let step = perform n member_there in
          let next = next_decided (node w.cluster n).replica in (
            _,
            step,
            done_shows deeds.Perform w _ i (world_next _ (event_of n deeds.Perform) step) s
                (performing_shows w i s next (turn_of rules k.network n deeds.Perform).state
                (turn_of rules k.network n deeds.Perform).sent
                (same_state k.network w i s.cluster n member deeds.Perform)
                (same_sent k.network w i s.cluster n member deeds.Perform))
                (performing_happenings w i s next)
                (performing_reach w i s next)
                (ap (λ t. t + 1) (performing_taken w i s next))
                (laws.placed w _ (event_of n deeds.Perform) k.past.order i step s.order),
          )
      deed_follows deeds.Restart own =
          let step = restart n member_there in
          (_, step, quiet_shows deeds.Restart _ step (acts_shows k.network w i s.cluster n member deeds.Restart) refl refl refl refl refl refl)

    -- the letter in front of node n's mail is received
    pub receives_follow : (l : Letter (Command Op)) → front (mail_of k.network n) ≡ Some l
        → (z : RecordedState Op Reply) → HasReceived k n l z → FollowsDelivery rules k l z
    receives_follow l e z received w i s =
        let net = received.0 in
        let delivered = received.1 in
        let x = delivered.0 in
        let sent = delivered.1 in
        let seated = (laws.nodes w i n (there k.network w i s.cluster n member)).seated in
        let shown = delivered.3 (node w.cluster n) (s.cluster.nodes n member) in
        let y = shown.0 in
        let out = shown.2.0 in
        let was = front_sent k.network w.cluster s.cluster n l e in
        let place = number_in l w.cluster.letters was.0 in
        let receives : Receives w.cluster.members l.«from» n (node w.cluster n) l.body y out =
        subst (λ m. Receives w.cluster.members l.«from» m (node w.cluster n) l.body y out) seated.node
        (subst (λ ms. Receives ms l.«from» (number_of (node w.cluster n)) (node w.cluster n) l.body y out) seated.speaks shown.2.1) in
        let v : World Op Reply = counted (with_cluster w (turned w.cluster l.to y out)) in
        let step : Step rules w (Deliver place.0) v =
        deliver place.0 l y out place.1
        (subst (λ m. Receives w.cluster.members l.«from» m (node w.cluster m) l.body y out) (sym was.1) receives) in
        let cluster : ShowsCluster (turned_net (without_front k.network n) n x sent) (turned w.cluster n y out) =
        turn_shows (without_front k.network n) w i
        (lost_shows k.network w.cluster s.cluster n) n member x sent y out shown.1 shown.2.2 in (
          place.0,
          v,
          place.1,
          step,
          subst (λ (q : RecordedState Op Reply). Shows q v) (sym received.2)
              (record {
                cluster = subst (λ m. ShowsCluster net (turned w.cluster m y out)) (sym was.1)
                    (subst (λ q. ShowsCluster q (turned w.cluster n y out)) (sym delivered.2) cluster);
                happenings = s.happenings;
                order = laws.placed w v (Deliver place.0) k.past.order i step s.order;
                reach = s.reach;
                taken = ap (λ t. t + 1) s.taken;
              }),
        )
