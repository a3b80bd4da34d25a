-- What took effect goes on from event to event, and a hall tells it.
use Rattle.std.proofs.Common.{◌≡◌, ℕ, ◌+◌, Bool, true, false, ◌&&◌, nat_lt, cond, List, [], ◌∷◌, ◌++◌, length}
use Rattle.std.proofs.Common.{Option, Some, None, refl, sym, ap, ap₂, ◌∙◌, subst, append-nil, arith}
use Rattle.std.specs.Option.{option_to_list}
use Rattle.std.proofs.lemmas.List.{length-map}
use Rattle.object.specs.Objects.{Rules}
use Rattle.object.specs.Replays.{is_new, kept}
use Rattle.object.specs.ReplayLaws.{kept-push}
use Rattle.object.specs.declared.command.Command.{Command}
use Rattle.object.specs.declared.once.Effect.TheVariants as effects
use Rattle.ballot.specs.OrderLaws.{BallotLaws}
use Rattle.ballot.specs.Members.{is_member}
use Rattle.slot_log.specs.Books.{SlotBook}
use Rattle.slot_log.specs.Decisions.{next_decided}
use Rattle.slot_log.specs.Histories.{history}
use Rattle.slot_log.specs.Proposals.{next_proposal}
use Rattle.node.specs.Deeds.{ComesToNothing, performance_of, performs, done_if, outcome_of}
use Rattle.node.specs.Holding.{Holding, outcome_held, performs_held}
use Rattle.node.specs.Outcomes.{reach_after, takes_effect, key_placed}
use Rattle.node.specs.declared.deed.Deed.{Deed}
use Rattle.node.specs.declared.deed.Deed.TheVariants as deeds
use Rattle.network.specs.Networks.{node_of}
use Rattle.agreement.specs.Chosen.{IsChosen}
use Rattle.agreement.specs.Events.{event_of}
use Rattle.agreement.specs.Nodes.{node}
use Rattle.agreement.specs.Reached.{IsReached}
use Rattle.agreement.specs.Runs.{IsWorld}
use Rattle.agreement.specs.Steps.{Step, submit, deliver, wake, nudge, propose, perform, restart, after_performing}
use Rattle.agreement.specs.Worlds.{World}
use Rattle.agreement.specs.declared.event.Event.{Event}
use Rattle.agreement.proofs.answered.Answered.{reachable_traced}
use Rattle.agreement.proofs.answered.Performed.{AllPerformed, history_run, same_run}
use Rattle.agreement.proofs.answered.Reaching.{reached_stays, reached_more, past_when, within_when}
use Rattle.agreement.proofs.answered.Told.{AllWithin, reachable_within_reach}
use Rattle.agreement.proofs.chosen.Grows.{Grows}
use Rattle.agreement.proofs.chosen.Invariants.{IsSound}
use Rattle.agreement.proofs.chosen.Reach.{reachable_sound, step_sound}
use Rattle.forgetting.proofs.Books.{rest_next}
use Rattle.lean_network.specs.LeanNetworks.{lean_node_of}
use Rattle.forgetting_hall.specs.Effects.{TookEffect, command_placed, effect_of, placed_by, is_perform}
use Rattle.forgetting_hall.specs.Halls.{ForgettingState, rest_of_hall}
use Rattle.forgetting_hall.specs.Rests.{HallRest, ShowsWorld, IsGoingOn}
use Rattle.forgetting_hall.specs.Shown.{holder}
use Rattle.forgetting_hall.proofs.Turning.{holder_is}

-- the command takes effect where it is new
effect_if : {Op : Type 0} (c : Command Op) (new : Bool)
    → option_to_list (command_placed (cond (takes_effect (cond new effects.Done effects.Stale)) (Some c.key) None) (Some c)) ≡ cond new (c ∷ []) []
effect_if c true = refl
effect_if c false = refl

module _ (laws : BallotLaws) {Op Reply : Type 0} (w v : World Op Reply) (i : IsSound w.cluster)
    (full : AllPerformed w.cluster) (grows : Grows w.cluster v.cluster) (order : List (Command Op))
    (took : TookEffect w order) where
  -- where the reach stays, nothing more takes effect
  effect_stays : v.reach ≡ w.reach → TookEffect v order
  effect_stays same = (took.0, reached_stays w v grows took.0 took.1 same, took.2)

  no_effect : v.reach ≡ w.reach → TookEffect v (order ++ [])
  no_effect same = subst (TookEffect v) (sym (append-nil order)) (effect_stays same)

  module _ (n : ℕ) where
    -- a replica at the slot after the reach performed the commands up to the reach
    history_reached : (cs : List (Command Op)) → IsReached w cs → (node w.cluster n).replica.slot_out ≡ w.reach + 1 → history (node w.cluster n).replica ≡ cs
    history_reached cs reached at =
        let done = history_run w.cluster i n (full n) in
        let last = done.1 in
        let count = reached.count in
        same_run laws w.cluster i 1 (history (node w.cluster n).replica) cs done.0 reached.chosen (omega arith)

    -- and performs one more
    effect_more : (c : Command Op) → next_decided (node w.cluster n).replica ≡ Some c
        → (node w.cluster n).replica.slot_out ≡ w.reach + 1 → v.reach ≡ w.reach + 1
        → TookEffect v (order ++ cond (is_new c (history (node w.cluster n).replica)) (c ∷ []) [])
    effect_more c decided at more = (
      took.0 ++ (c ∷ []),
      reached_more w v grows took.0 took.1 c
          (subst (λ s. IsChosen w.cluster s c) (omega arith)
          ((i.nodes n).decisions (node w.cluster n).replica.slot_out c decided)) more,
      ap (λ ds. ds ++ cond (is_new c (history (node w.cluster n).replica)) (c ∷ []) []) took.2
          ∙ ap (λ cs. kept took.0 ++ cond (is_new c cs) (c ∷ []) []) (history_reached took.0 took.1 at)
          ∙ sym (kept-push took.0 c),
    )

    effect_performs : AllWithin w.cluster (w.reach + 1) → (o : Option (Command Op)) → next_decided (node w.cluster n).replica ≡ o
        → v.reach ≡ reach_after w.reach (performs (node w.cluster n).replica o)
        → TookEffect v (order ++ option_to_list (command_placed (key_placed w.reach (performs (node w.cluster n).replica o)) o))
    effect_performs within None decided reach = no_effect reach
    effect_performs within (Some c) decided reach =
        elim (nat_lt w.reach slot) as (λ b. nat_lt w.reach slot ≡ b
        → TookEffect v (order ++ option_to_list (command_placed
        (cond (b && takes_effect (performance_of book c).effect) (Some c.key) None) (Some c)))) [
          | true ↦ λ past. let low = within n in let high = past_when w.reach slot past in
              subst (λ ds. TookEffect v (order ++ ds)) (sym (effect_if c (is_new c (history book)))) (effect_more c decided (omega arith) (omega arith))
          | false ↦ λ old. let low = within_when w.reach slot old in no_effect (reach ∙ omega arith)
        ] refl
      where
        book : SlotBook (Command Op)
        book = (node w.cluster n).replica

        slot : ℕ
        slot = (node w.cluster n).replica.slot_out

module _ (laws : BallotLaws) {O Op Reply : Type 0} (rules : Rules O Op Reply) where
  reach_then : (w : World Op Reply) (n : ℕ) (o : Option (Command Op))
      → (after_performing rules w n (node w.cluster n).replica o).reach
      ≡ reach_after w.reach (performs (node w.cluster n).replica o)
  reach_then w n None = refl
  reach_then w n (Some c) = refl

  step_effect : (w v : World Op Reply) (e : Event Op) → IsSound w.cluster → AllPerformed w.cluster
      → AllWithin w.cluster (w.reach + 1) → Grows w.cluster v.cluster → (order : List (Command Op)) → TookEffect w order
      → Step rules w e v → TookEffect v (order ++ option_to_list (effect_of w e))
  step_effect w v e i full within g order took (submit n c member own) = no_effect laws w v i full g order took refl
  step_effect w v e i full within g order took (deliver j l x out at receives) = no_effect laws w v i full g order took refl
  step_effect w v e i full within g order took (wake n member) = no_effect laws w v i full g order took refl
  step_effect w v e i full within g order took (nudge n member) = no_effect laws w v i full g order took refl
  step_effect w v e i full within g order took (propose n member) = no_effect laws w v i full g order took refl
  step_effect w v e i full within g order took (perform n member) =
      let o = next_decided (node w.cluster n).replica in
      effect_performs laws w v i full g order took n within o refl (reach_then w n o)
  step_effect w v e i full within g order took (restart n member) = no_effect laws w v i full g order took refl

  -- what took effect, after one event more
  pub effect_next : (w v : World Op Reply) (e : Event Op) (order : List (Command Op)) → IsWorld rules w → Step rules w e v
      → TookEffect w order → TookEffect v (order ++ option_to_list (effect_of w e))
  effect_next w v e order is s took =
      let i = reachable_sound laws rules w is.reachable in
      step_effect w v e i (reachable_traced laws rules w is.reachable).full
      (reachable_within_reach laws rules w is.reachable) (step_sound laws rules w e v i s).grows order took s

  -- so many commands took effect as the hall counts
  pub effect_count : (h : HallRest Op O Reply) (w : World Op Reply) (order : List (Command Op)) → IsWorld rules w → ShowsWorld rules h w
      → TookEffect w order → length order ≡ h.summary.placed
  effect_count h w order is s took =
      let i = reachable_sound laws rules w is.reachable in
      let placed = s.placed in
      let cs = placed.1 in
      let count = took.1.count in
      let same = same_run laws w.cluster i 1 took.0 cs.0 took.1.chosen cs.1.chosen (count ∙ sym cs.1.count) in
      ap length took.2 ∙ ap (λ ds. length (kept ds)) same
      ∙ sym (length-map (kept cs.0) (λ c. c.key)) ∙ ap length (sym cs.2) ∙ sym placed.2

-- nothing takes effect where nothing is performed
idle_effect : {Op X : Type 0} (reach : ℕ) (o : Option X) (c : Option (Command Op)) → command_placed (key_placed reach (done_if o)) c ≡ None
idle_effect reach None c = refl
idle_effect reach (Some x) c = refl

module _ {O Op Reply : Type 0} (rules : Rules O Op Reply) where
  -- what a hall tells is what takes effect in each world that it shows
  module _ (h : HallRest Op O Reply) (w : World Op Reply) (s : ShowsWorld rules h w) (n : ℕ) (member : is_member h.network.members n ≡ true) where
    same_next : next_decided (node_of h.network n).replica ≡ next_decided (node w.cluster n).replica
    same_next = ap next_decided (s.cluster.nodes n member).replica ∙ rest_next h.base (node w.cluster n).replica (s.cluster.past n member)

    pub effect_told : (d : Deed Op) → IsGoingOn d → outcome_held (holder h.network h.objects n) d ≡ outcome_of (node w.cluster n) d
        → effect_of w (event_of n d) ≡ placed_by h n d
    effect_told (deeds.Request c) own outcome = absurd own
    effect_told deeds.Wake own outcome = refl
    effect_told deeds.Nudge own outcome = refl
    effect_told deeds.Propose own outcome =
        sym (idle_effect h.reach (next_proposal (node_of h.network n).replica) (next_decided (node_of h.network n).replica))
    effect_told deeds.Perform own outcome =
        ap₂ command_placed (ap₂ key_placed (sym s.reach) (sym outcome)) (sym same_next)
    effect_told deeds.Restart own outcome = absurd own

  module _ (h : ForgettingState Op O Reply) (n : ℕ) where
    -- as the hall's code has it
    pub placed_is : (d : Deed Op) → placed_by (rest_of_hall rules h) n d
        ≡ command_placed (key_placed h.reach (outcome_held (lean_node_of rules h.network n) d)) (next_decided (lean_node_of rules h.network n).state.replica)
    placed_is d = ap (λ (x : Holding Op O). command_placed (key_placed h.reach (outcome_held x d)) (next_decided x.state.replica)) (holder_is rules h.network n)

    -- nothing takes effect by another deed
    pub none_placed : (d : Deed Op) → is_perform d ≡ false → placed_by (rest_of_hall rules h) n d ≡ None
    none_placed (deeds.Request c) other = refl
    none_placed deeds.Wake other = refl
    none_placed deeds.Nudge other = refl
    none_placed deeds.Propose other =
        idle_effect h.reach (next_proposal (node_of (rest_of_hall rules h).network n).replica) (next_decided (node_of (rest_of_hall rules h).network n).replica)
    none_placed deeds.Perform other = absurd (cc)
    none_placed deeds.Restart other = refl

module _ {O Op Reply : Type 0} (rules : Rules O Op Reply) (h : ForgettingState Op O Reply) (n : ℕ) where
  -- nor where there is nothing to do
  pub nothing_placed : (d : Deed Op) → ComesToNothing rules (lean_node_of rules h.network n).state d → placed_by (rest_of_hall rules h) n d ≡ None
  nothing_placed (deeds.Request c) e = refl
  nothing_placed deeds.Wake e = refl
  nothing_placed deeds.Nudge e = refl
  nothing_placed deeds.Propose e = none_placed rules h n deeds.Propose refl
  nothing_placed deeds.Perform e = placed_is rules h n deeds.Perform
      ∙ ap (λ o. command_placed (key_placed h.reach (performs_held (lean_node_of rules h.network n) o)) o) e
  nothing_placed deeds.Restart e = refl

pub none_if : {X : Type 0} (b : Bool) (o : Option X) → o ≡ None → cond b o None ≡ None
none_if true o e = e
none_if false o e = refl
