-- What a round takes of the work that is left.
use Rattle.std.proofs.Common.{◌≡◌, inl, ℕ, zero, suc, ◌+◌, ◌*◌, ◌<◌, ◌≤◌, Bool, true, false, cond, not, ◌&&◌, []}
use Rattle.std.proofs.Common.{◌∷◌, map, length, Option, None, Some, is_none, refl, sym, ap, ap₂, ◌∙◌, subst, arith}
use Rattle.std.specs.FinMap.{empty, contains_key, entries, len, len-entries, len-empty, empty_of_len}
use Rattle.std.specs.Ordering.{nat_cmp}
use Rattle.std.proofs.lemmas.List.{length-append, length-map}
use Rattle.object.specs.declared.command.Command.{Command}
use Rattle.object.specs.Objects.{Rules}
use Rattle.ballot.specs.Ballots.{Numbers, is_below}
use Rattle.ballot.specs.Letters.{all_to_all}
use Rattle.ballot.specs.Members.{is_member}
use Rattle.ballot.specs.OrderLaws.{BallotLaws}
use Rattle.ballot.specs.Slots.{Slots}
use Rattle.ballot.specs.declared.letter.LetterBody.TheVariants.{P1a, P2a}
use Rattle.scout_commander.specs.Scouts.{Scouting, new_scout}
use Rattle.scout_commander.specs.Commanders.{Commanding}
use Rattle.leader.specs.Leaders.{Leading, Done, silently, woken, scout_says, says_again}
use Rattle.node.specs.Deeds.{led}
use Rattle.agreement.specs.Nodes.{Cluster, node}
use Rattle.agreement.specs.Worlds.{World}
use Rattle.agreement.specs.Steps.{Step, wake, counted, with_cluster, leader_turn}
use Rattle.agreement.specs.declared.event.Event.TheVariants as events
use Rattle.agreement.proofs.chosen.Invariants.{IsSound}
use Rattle.agreement.proofs.chosen.LeaderRows.{off_on}
use Rattle.agreement.proofs.chosen.Turns.{here}
use Rattle.world.specs.WaysOut.{first_leader, rivals, IsTalk, IsAtRest, HasScout, work, most_slots, IsBeaten, IsOver, beaten, adopted, at_rest}
use Rattle.world.proofs.rounds.Talking.{turn_talks, at_each}
use Rattle.world.proofs.rounds.Rivals.{no_more_rivals, work_when}

-- how many things a leader waits for
pub waits_asleep : {C : Type 0} (l : Leading C) (s : Scouting C) → l.scout ≡ Some s → l.commanders ≡ empty → length (says_again l) ≡ 1
waits_asleep {C} l s is nobody =
    let one : length (scout_says {C = C} l.scout) ≡ 1 = ap (λ o. length (scout_says o)) is in
    let none : length (map (λ (e : ℕ × Commanding C). P2a e.1.pvalue) (entries l.commanders)) ≡ 0 =
    length-map (entries l.commanders) (λ e. P2a e.1.pvalue) ∙ sym
    (len-entries l.commanders) ∙ ap len nobody ∙ len-empty nat_cmp (Commanding C) in
    length-append (scout_says l.scout) _ ∙ ap₂ (λ a b. a + b) one none

pub waits_awake : {C : Type 0} (l : Leading C) → l.scout ≡ None → length (says_again l) ≡ len l.commanders
waits_awake {C} l is =
    let none : length (scout_says {C = C} l.scout) ≡ 0 = ap (λ o. length (scout_says o)) is in
    length-append (scout_says l.scout) _ ∙ ap₂ (λ a b. a + b) none
    (length-map (entries l.commanders) (λ e. P2a e.1.pvalue) ∙ sym (len-entries l.commanders)) ∙ omega arith

none_left : {C : Type 0} (cs : Slots (Commanding C)) → cs ≡ empty → len cs ≡ 0
none_left {C} cs e = ap len e ∙ len-empty nat_cmp (Commanding C)

pub some_left : {C : Type 0} (k : Cluster C) → (IsAtRest k → ⊥) → (first_leader k).active ≡ true → 0 < len (first_leader k).commanders
some_left k left active = at (len (first_leader k).commanders) refl
  where
    at : (n : ℕ) → len (first_leader k).commanders ≡ n → 0 < n
    at zero e = absurd (left (record { active = active; done = empty_of_len (first_leader k).commanders e }))
    at (suc n) e = omega arith

-- what a round leaves of the work, where it took no more events than it has questions and answers
module _ {Op Reply : Type 0} (w v : World Op Reply) (waits : ℕ) (spent : v.taken ≤ w.taken + 2 + 14 * waits)
    (few : len (first_leader v.cluster).commanders ≤ most_slots + 1) where
  left_beaten : (active : Bool) → (first_leader w.cluster).active ≡ active
      → (active ≡ true → waits ≡ len (first_leader w.cluster).commanders) → (active ≡ false → waits ≡ 1) → IsBeaten w v
      → v.taken + work v.cluster < w.taken + work w.cluster
  left_beaten true e awake asleep h =
      let a = work_when v.cluster false h.asleep in
      let none = none_left (first_leader v.cluster).commanders h.nobody in
      let b = work_when w.cluster true e in
      let fewer = h.fewer in
      let n = awake refl in
      omega arith
  left_beaten false e awake asleep h =
      let a = work_when v.cluster false h.asleep in
      let none = none_left (first_leader v.cluster).commanders h.nobody in
      let b = work_when w.cluster false e in
      let fewer = h.fewer in
      let n = asleep refl in
      omega arith

  left_adopted : (first_leader w.cluster).active ≡ false → waits ≡ 1 → (first_leader v.cluster).active ≡ true
      → rivals v.cluster (first_leader v.cluster).ballot ≤ rivals w.cluster (first_leader w.cluster).ballot
      → v.taken + work v.cluster < w.taken + work w.cluster
  left_adopted asleep one active no_more =
      let a = work_when v.cluster true active in
      let b = work_when w.cluster false asleep in
      omega arith

  left_at_rest : (active : Bool) → (first_leader w.cluster).active ≡ active
      → (active ≡ true → (waits ≡ len (first_leader w.cluster).commanders) × (0 < waits)) → (active ≡ false → waits ≡ 1)
      → IsAtRest v.cluster → rivals v.cluster (first_leader v.cluster).ballot ≤ rivals w.cluster
      (first_leader w.cluster).ballot → v.taken + work v.cluster ≤ w.taken + work w.cluster
  left_at_rest true e awake asleep h no_more =
      let a = work_when v.cluster true h.active in
      let none = none_left (first_leader v.cluster).commanders h.done in
      let b = work_when w.cluster true e in
      let n = (awake refl).0 in
      let some = (awake refl).1 in
      omega arith
  left_at_rest false e awake asleep h no_more =
      let a = work_when v.cluster true h.active in
      let none = none_left (first_leader v.cluster).commanders h.done in
      let b = work_when w.cluster false e in
      let n = asleep refl in
      omega arith

  pub round_spent : ((first_leader w.cluster).active ≡ true → (waits ≡ len (first_leader w.cluster).commanders)
      × (0 < waits)) → ((first_leader w.cluster).active ≡ false → waits ≡ 1) → IsOver w v
      → v.taken + work v.cluster ≤ w.taken + work w.cluster
  round_spent awake asleep (beaten h) = let less = left_beaten (first_leader w.cluster).active refl (λ e. (awake e).0) asleep h in omega arith
  round_spent awake asleep (adopted sleeps active no_more) = let less = left_adopted sleeps (asleep sleeps) active no_more in omega arith
  round_spent awake asleep (at_rest h no_more) = left_at_rest (first_leader w.cluster).active refl awake asleep h no_more

-- the world after node 1 woke
pub wake_is : {O Op Reply : Type 0} (rules : Rules O Op Reply) (w : World Op Reply) (n : ℕ) (v : World Op Reply)
    → Step rules w (events.Wake n) v
    → v ≡ counted (with_cluster w (leader_turn w.cluster n (woken (node w.cluster n).leader)))
wake_is rules w n _ (wake m member) = refl

-- a leader that sends a scout out
abbrev sends_out : {C : Type 0} → Leading C → Done (Leading C) C
sends_out l = record { state = record l { scout = Some (new_scout l.members l.ballot) }; says = P1a l.ballot ∷ [] }

module _ {C : Type 0} (l : Leading C) where
  woken_by : (test : Bool) (P : Leading C → Type 0) → P (record l { scout = Some (new_scout l.members l.ballot) }) → P l
      → P (cond {A = Done (Leading C) C} test (sends_out l) (silently l)).state
  woken_by true P a b = a
  woken_by false P a b = b

  woken_scout : (active : Bool) (o : Option (Scouting C)) → l.active ≡ active → l.scout ≡ o
      → (cond {A = Done (Leading C) C} (not active && is_none o) (sends_out l) (silently l)).state.active ≡ false
      → (s : Scouting C) × ((cond {A = Done (Leading C) C} (not active && is_none o) (sends_out l) (silently l)).state.scout ≡ Some s)
  woken_scout true o e f asleep = off_on asleep e
  woken_scout false None e f asleep = (new_scout l.members l.ballot, refl)
  woken_scout false (Some s) e f asleep = (s, f)

pub woken_alone : {C : Type 0} (l : Leading C) → l.active ≡ true → l.scout ≡ None → (woken l).state.scout ≡ None
woken_alone {C} l active alone = at l.active (is_none l.scout) active
  where
    at : (a n : Bool) → a ≡ true → (cond {A = Done (Leading C) C} (not a && n) (sends_out l) (silently l)).state.scout ≡ None
    at true n e = alone
    at false n e = absurd (cc)

module _ (laws : BallotLaws) {O Op Reply : Type 0} (rules : Rules O Op Reply) (w v : World Op Reply)
    (i : IsSound w.cluster) (first : is_member w.cluster.members 1 ≡ true) (step : Step rules w (events.Wake 1) v) where
  after_wake : (P : World Op Reply → Type 0) → P (counted (with_cluster w (leader_turn w.cluster 1 (woken (first_leader w.cluster))))) → P v
  after_wake P h = subst P (sym (wake_is rules w 1 v step)) h

  pub leader_woken : first_leader v.cluster ≡ (woken (first_leader w.cluster)).state
  leader_woken = after_wake (λ z. first_leader z.cluster ≡ (woken (first_leader w.cluster)).state)
      (ap (λ x. x.leader) (here laws w.cluster i 1 first (led (node w.cluster 1) (woken (first_leader w.cluster)))
      (all_to_all w.cluster.members 1 (woken (first_leader w.cluster)).says)))

  pub wake_talks : IsTalk w v
  wake_talks = after_wake (IsTalk w)
      (turn_talks laws w i 1 first (led (node w.cluster 1) (woken (first_leader w.cluster)))
      (all_to_all w.cluster.members 1 (woken (first_leader w.cluster)).says) refl
      (λ e s there. woken_by (first_leader w.cluster) _ (λ l. contains_key l.proposals s ≡ true) there there))

  pub same_ballot : (first_leader v.cluster).ballot ≡ (first_leader w.cluster).ballot
  same_ballot = ap (λ l. l.ballot) leader_woken ∙ woken_by (first_leader w.cluster) _ (λ l. l.ballot ≡ (first_leader w.cluster).ballot) refl refl

  pub same_active : (first_leader v.cluster).active ≡ (first_leader w.cluster).active
  same_active = ap (λ l. l.active) leader_woken ∙ woken_by (first_leader w.cluster) _ (λ l. l.active ≡ (first_leader w.cluster).active) refl refl

  pub same_commanders : (first_leader v.cluster).commanders ≡ (first_leader w.cluster).commanders
  same_commanders = ap (λ l. l.commanders) leader_woken ∙ woken_by (first_leader w.cluster) _
      (λ l. l.commanders ≡ (first_leader w.cluster).commanders) refl refl

  pub has_scout : HasScout v.cluster
  has_scout = subst (λ l. l.active ≡ false → (s : Scouting (Command Op)) × (l.scout ≡ Some s)) (sym leader_woken)
      (woken_scout (first_leader w.cluster) (first_leader w.cluster).active (first_leader w.cluster).scout refl refl)

  pub same_rivals : (b : Numbers) → rivals v.cluster b ≤ rivals w.cluster b
  same_rivals b = after_wake (λ z. rivals z.cluster b ≤ rivals w.cluster b)
      (no_more_rivals laws w.cluster (leader_turn w.cluster 1 (woken (first_leader w.cluster))) refl b
      (λ j. inl (at_each laws w i 1 first (led (node w.cluster 1) (woken (first_leader w.cluster)))
      (all_to_all w.cluster.members 1 (woken (first_leader w.cluster)).says)
      (λ n x. x.acceptor.promised ≡ (node w.cluster n).acceptor.promised) refl (λ n apart. refl) j)))

  pub wake_counts : v.taken ≡ w.taken + 1
  wake_counts = after_wake (λ z. z.taken ≡ w.taken + 1) refl

-- what a round from a later world of the same leader comes to
pub over_from : {Op Reply : Type 0} (w u v : World Op Reply)
    → (first_leader u.cluster).ballot ≡ (first_leader w.cluster).ballot
    → (first_leader u.cluster).active ≡ (first_leader w.cluster).active
    → rivals u.cluster (first_leader w.cluster).ballot ≤ rivals w.cluster (first_leader w.cluster).ballot → IsOver u v → IsOver w v
over_from w u v ballot active no_more (beaten h) = beaten (record {
  asleep = h.asleep;
  alone = h.alone;
  nobody = h.nobody;
  above = subst (λ b. is_below b (first_leader v.cluster).ballot ≡ true) ballot h.above;
  fewer = let a = subst (λ b. rivals v.cluster (first_leader v.cluster).ballot < rivals u.cluster b) ballot h.fewer in omega arith;
})
over_from w u v ballot active no_more (adopted asleep now fewer) =
    adopted (sym active ∙ asleep) now
    (let a = subst (λ b. rivals v.cluster (first_leader v.cluster).ballot ≤ rivals u.cluster b) ballot fewer in omega
    arith)
over_from w u v ballot active no_more (at_rest h fewer) =
    at_rest h (let a = subst (λ b. rivals v.cluster (first_leader v.cluster).ballot ≤ rivals u.cluster b) ballot fewer
    in omega arith)
