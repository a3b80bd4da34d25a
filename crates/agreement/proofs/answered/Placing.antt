-- The keys of what took effect, from event to event.
use Rattle.std.proofs.Common.{◌≡◌, inl, inr, ℕ, ◌+◌, Bool, true, false, ◌&&◌, nat_lt, cond, List, [], ◌∷◌, ◌++◌, map}
use Rattle.std.proofs.Common.{Option, Some, None, refl, sym, ap, ◌∙◌, subst, append-nil, arith}
use Rattle.std.specs.Option.{option_to_list}
use Rattle.std.proofs.lemmas.List.{map-append}
use Rattle.object.specs.Lists.{In}
use Rattle.object.specs.Keys.{KeysOnce}
use Rattle.object.specs.Legal.{IsRising}
use Rattle.object.specs.Replays.{is_new, kept}
use Rattle.object.specs.ReplayLaws.{kept-push}
use Rattle.object.specs.Objects.{Rules}
use Rattle.object.specs.declared.command.Command.{Command}
use Rattle.object.specs.declared.command.Key.{Key}
use Rattle.object.specs.declared.once.Effect.TheVariants as effects
use Rattle.ballot.specs.OrderLaws.{BallotLaws}
use Rattle.slot_log.specs.Books.{SlotBook}
use Rattle.slot_log.specs.Decisions.{next_decided}
use Rattle.node.specs.Deeds.{performance_of, performs}
use Rattle.slot_log.specs.Histories.{history}
use Rattle.agreement.specs.declared.event.Event.{Event}
use Rattle.agreement.specs.Chosen.{IsChosen}
use Rattle.agreement.specs.Nodes.{node}
use Rattle.agreement.specs.Worlds.{World}
use Rattle.node.specs.Outcomes.{reach_after, takes_effect, key_placed}
use Rattle.agreement.specs.Placing.{placed_after}
use Rattle.agreement.specs.Reached.{IsReached, HasKey, HasPlaced}
use Rattle.agreement.specs.Runs.{IsWorld}
use Rattle.agreement.specs.Steps.{Step, submit, deliver, wake, nudge, propose, perform, restart, after_performing}
use Rattle.agreement.proofs.answered.Answered.{reachable_traced}
use Rattle.agreement.proofs.chosen.Grows.{Grows}
use Rattle.agreement.proofs.chosen.Invariants.{IsSound}
use Rattle.agreement.proofs.answered.Reaching.{reached_stays, reached_more, past_when, within_when}
use Rattle.agreement.proofs.answered.Performed.{AllPerformed, history_run, same_run}
use Rattle.agreement.proofs.chosen.Reach.{reachable_sound, step_sound}
use Rattle.agreement.proofs.order.Rising.{other_keys, kept_rises}
use Rattle.agreement.proofs.answered.Told.{AllWithin, reachable_within_reach}

abbrev keys_of : {Op : Type 0} → List (Command Op) → List Key
keys_of cs = map (λ c. c.key) cs

-- each of these keys is a command's
with_key : {Op : Type 0} (cs : List (Command Op)) (key : Key) → In key (keys_of cs) → HasKey key cs
with_key [] key i = absurd i
with_key (c ∷ cs) key (inl e) = (c, inl refl, sym e)
with_key (c ∷ cs) key (inr i) = let d = with_key cs key i in (d.0, inr d.1, d.2)

-- no key stands twice where numbers rise
rising_once : {Op : Type 0} (cs : List (Command Op)) → IsRising cs → KeysOnce (λ (k : Key). k) (keys_of cs)
rising_once [] rises = tt
rising_once (c ∷ cs) rises = (λ key i same. let d = with_key cs key i in other_keys c cs rises d.0 d.1 (d.2 ∙ same), rising_once cs rises.1)

pub one_place_each : {Op Reply : Type 0} (w : World Op Reply) (keys : List Key) → HasPlaced w keys → KeysOnce (λ (k : Key). k) keys
one_place_each w keys placed = subst (KeysOnce (λ (k : Key). k)) (sym placed.2) (rising_once (kept placed.0) (kept_rises placed.0))

-- the command's key, where the command is new
abbrev key_if : {Op : Type 0} → Command Op → Bool → List Key
key_if c new = option_to_list (cond (takes_effect (cond new effects.Done effects.Stale)) (Some c.key) None)

key_if_new : {Op : Type 0} (c : Command Op) (new : Bool) → key_if c new ≡ keys_of (cond new (c ∷ []) [])
key_if_new c true = refl
key_if_new c false = refl

-- of one command more the key is kept where it is new
keys_push : {Op : Type 0} (cs : List (Command Op)) (c : Command Op) → keys_of (kept cs) ++ key_if c (is_new c cs) ≡ keys_of (kept (cs ++ (c ∷ [])))
keys_push cs c =
    ap (λ ks. keys_of (kept cs) ++ ks) (key_if_new c (is_new c cs))
    ∙ sym (map-append (λ x. x.key) (kept cs) (cond (is_new c cs) (c ∷ []) []))
    ∙ ap keys_of (sym (kept-push cs c))

module _ (laws : BallotLaws) {Op Reply : Type 0} (w v : World Op Reply) (i : IsSound w.cluster)
    (full : AllPerformed w.cluster) (grows : Grows w.cluster v.cluster) (keys : List Key)
    (placed : HasPlaced w keys) where
  -- where the reach stays, so do the keys
  placed_stays : v.reach ≡ w.reach → HasPlaced v keys
  placed_stays same = (placed.0, reached_stays w v grows placed.0 placed.1 same, placed.2)

  module _ (n : ℕ) where
    -- a replica at the slot after the reach performed the commands up to the reach
    history_reached : (cs : List (Command Op)) → IsReached w cs → (node w.cluster n).replica.slot_out ≡ w.reach + 1 → history (node w.cluster n).replica ≡ cs
    history_reached cs reached at =
        let done = history_run w.cluster i n (full n) in
        let last = done.1 in
        let count = reached.count in
        same_run laws w.cluster i 1 (history (node w.cluster n).replica) cs done.0 reached.chosen (omega arith)

    -- and performs one more
    placed_more : (c : Command Op) → next_decided (node w.cluster n).replica ≡ Some c
        → (node w.cluster n).replica.slot_out ≡ w.reach + 1 → v.reach ≡ w.reach + 1
        → HasPlaced v (keys ++ key_if c (is_new c (history (node w.cluster n).replica)))
    placed_more c decided at more = (
      placed.0 ++ (c ∷ []),
      reached_more w v grows placed.0 placed.1 c
          (subst (λ s. IsChosen w.cluster s c) (omega arith)
          ((i.nodes n).decisions (node w.cluster n).replica.slot_out c decided)) more,
      ap (λ ks. ks ++ key_if c (is_new c (history (node w.cluster n).replica))) placed.2
          ∙ ap (λ cs. keys_of (kept placed.0) ++ key_if c (is_new c cs)) (history_reached placed.0 placed.1 at)
          ∙ keys_push placed.0 c,
    )

    performs_placed : AllWithin w.cluster (w.reach + 1) → (o : Option (Command Op)) → next_decided (node w.cluster n).replica ≡ o
        → v.reach ≡ reach_after w.reach (performs (node w.cluster n).replica o)
        → HasPlaced v (keys ++ option_to_list (key_placed w.reach (performs (node w.cluster n).replica o)))
    performs_placed within None decided reach = subst (HasPlaced v) (sym (append-nil keys)) (placed_stays reach)
    performs_placed within (Some c) decided reach =
        elim (nat_lt w.reach slot) as (λ b. nat_lt w.reach slot ≡ b
        → HasPlaced v (keys ++ option_to_list
        (cond (b && takes_effect (performance_of book c).effect) (Some c.key) None))) [
          | true ↦ λ past. let low = within n in let high = past_when w.reach slot past in placed_more c decided (omega arith) (omega arith)
          | false ↦ λ old. let low = within_when w.reach slot old in subst (HasPlaced v) (sym (append-nil keys)) (placed_stays (reach ∙ omega arith))
        ] refl
      where
        book : SlotBook (Command Op)
        book = (node w.cluster n).replica

        slot : ℕ
        slot = (node w.cluster n).replica.slot_out

module _ (laws : BallotLaws) {O Op Reply : Type 0} (rules : Rules O Op Reply) where
  reach_then : (w : World Op Reply) (n : ℕ) (o : Option (Command Op))
      → (after_performing rules w n (node w.cluster n).replica o).reach
      ≡ reach_after w.reach (performs (node w.cluster n).replica o)
  reach_then w n None = refl
  reach_then w n (Some c) = refl

  step_placed : (w v : World Op Reply) (e : Event Op) → IsSound w.cluster → AllPerformed w.cluster
      → AllWithin w.cluster (w.reach + 1) → Grows w.cluster v.cluster → (keys : List Key) → HasPlaced w keys
      → Step rules w e v → HasPlaced v (placed_after w e keys)
  step_placed w v e i full within g keys placed (submit n c member own) = placed_stays laws w v i full g keys placed refl
  step_placed w v e i full within g keys placed (deliver j l x out at receives) = placed_stays laws w v i full g keys placed refl
  step_placed w v e i full within g keys placed (wake n member) = placed_stays laws w v i full g keys placed refl
  step_placed w v e i full within g keys placed (nudge n member) = placed_stays laws w v i full g keys placed refl
  step_placed w v e i full within g keys placed (propose n member) = placed_stays laws w v i full g keys placed refl
  step_placed w v e i full within g keys placed (perform n member) =
      let o = next_decided (node w.cluster n).replica in
      performs_placed laws w v i full g keys placed n within o refl (reach_then w n o)
  step_placed w v e i full within g keys placed (restart n member) = placed_stays laws w v i full g keys placed refl

  -- the keys that took effect, after one event more
  pub placed_next : (w v : World Op Reply) (e : Event Op) (keys : List Key) → IsWorld rules w → Step rules w e v
      → HasPlaced w keys → HasPlaced v (placed_after w e keys)
  placed_next w v e keys is s placed =
      let i = reachable_sound laws rules w is.reachable in
      step_placed w v e i (reachable_traced laws rules w is.reachable).full
      (reachable_within_reach laws rules w is.reachable) (step_sound laws rules w e v i s).grows keys placed s
