-- Every leader of every world is as leaders are.
use Rattle.std.proofs.Common.{◌≡◌, ◌≢◌, inl, inr, ⊎_elim, ℕ, true, List, [], ◌∷◌, Some, None, Option, refl, sym, subst}
use Rattle.std.proofs.lemmas.Bool.{cases_eq}
use Rattle.object.specs.Lists.{In}
use Rattle.object.specs.ListLaws.{Each-at, In-get, In-left, In-right, In-map}
use Rattle.object.specs.Objects.{Rules}
use Rattle.object.specs.declared.command.Command.{Command}
use Rattle.ballot.specs.Letters.{letter, to_all, all_to_all}
use Rattle.ballot.specs.Members.{is_member, numbers}
use Rattle.ballot.specs.OrderLaws.{BallotLaws}
use Rattle.ballot.specs.declared.letter.Letter.{Letter}
use Rattle.ballot.specs.declared.letter.LetterBody.{LetterBody}
use Rattle.leader.specs.Leaders.{Leading, Done, new_leader}
use Rattle.slot_log.specs.Decisions.{next_decided}
use Rattle.node.specs.Deeds.{led}
use Rattle.node.specs.Nodes.{NodeState, restarted}
use Rattle.node.specs.Receiving.{Receives, promises_ballot, accepts_pvalue, hears_promise, hears_vote, hears_proposal, learns, tells_decisions}
use Rattle.agreement.specs.declared.event.Event.{Event}
use Rattle.world.specs.Leading.{IsLed, HasLeader}
use Rattle.agreement.specs.Nodes.{Cluster, node, turned}
use Rattle.agreement.specs.Runs.{InEvery}
use Rattle.agreement.specs.Steps.{Step, submit, deliver, wake, nudge, propose, perform, restart, after_performing, leader_turn}
use Rattle.agreement.specs.Worlds.{World, opening}
use Rattle.agreement.proofs.chosen.Grows.{Grows}
use Rattle.agreement.proofs.chosen.Invariants.{IsFair, IsSound, IsTrueOf}
use Rattle.agreement.proofs.chosen.LeaderRows.{none_not, off_on}
use Rattle.world.proofs.leading.Leading.{IsLedBy, led_stays, woken_led, p1b_led, p2b_led, proposed_led}
use Rattle.agreement.proofs.books.LeadingRuns.{in_every}
use Rattle.agreement.proofs.chosen.Reach.{opened_at, step_sound, reachable_sound}
use Rattle.agreement.proofs.chosen.Sets.{In-numbers}
use Rattle.agreement.proofs.chosen.Turns.{here, there}
use Rattle.node.specs.SlotLaws.{none_in_empty}

-- what is said to all is sent to each member
pub In-to_each : {C : Type 0} (ws : List ℕ) (n : ℕ) (bodies : List (LetterBody C)) (b : LetterBody C) (m : ℕ)
    → is_member ws m ≡ true → In b bodies → In (letter n b m) (all_to_all ws n bodies)
In-to_each ws n [] b m member i = absurd i
In-to_each ws n (c ∷ cs) b m member (inl e) =
    In-left (letter n b m) (to_all ws n c) (all_to_all ws n cs)
    (subst (λ z. In (letter n b m) (to_all ws n z)) e (In-map (letter n b) m (numbers ws) (In-numbers ws m member)))
In-to_each ws n (c ∷ cs) b m member (inr i) = In-right (letter n b m) (to_all ws n c) (all_to_all ws n cs) (In-to_each ws n cs b m member i)

new_led : {C : Type 0} (k : Cluster C) (n : ℕ) (members : List ℕ) (boot : ℕ) → IsLed k n (new_leader members n boot)
new_led k n members boot = record {
  active = λ on. off_on refl on;
  asleep = λ off. refl;
  scout = λ s e. none_not refl e;
  commander = λ s c e. none_in_empty s c e;
}

module _ (laws : BallotLaws) {C : Type 0} (k : Cluster C) (i : IsSound k) (all : (m : ℕ) → HasLeader k m) (n : ℕ) (member : is_member k.members n ≡ true) where
  turn_led : (x : NodeState C) (out : List (Letter C)) → Grows k (turned k n x out)
      → IsLed (turned k n x out) n x.leader → (m : ℕ) → HasLeader (turned k n x out) m
  turn_led x out g fine m = ⊎_elim
      (λ (e : m ≡ n). subst (HasLeader (turned k n x out)) (sym e)
      (subst (λ (y : NodeState C). IsLed (turned k n x out) n y.leader) (sym (here laws k i n member x out)) fine))
      (λ (apart : m ≢ n). subst (λ (y : NodeState C). IsLed (turned k n x out) m y.leader)
      (sym (there laws k i n member x out m apart)) (led_stays k (turned k n x out) g m (node k m).leader (all m)))
      (cases_eq m n)

  leader_led : (d : Done (Leading C) C) → IsLedBy k n d → Grows k (leader_turn k n d) → (m : ℕ) → HasLeader (leader_turn k n d) m
  leader_led d by g =
      turn_led (led (node k n) d) (all_to_all k.members n d.says) g
      (by (leader_turn k n d) g (λ b at m to. In-right (letter n b m) k.letters (all_to_all k.members n d.says) (In-to_each k.members n d.says b m to at)))

  -- a node whose leader stays
  same_led : (x : NodeState C) (out : List (Letter C)) → x.leader ≡ (node k n).leader → Grows k (turned k n x out) → (m : ℕ) → HasLeader (turned k n x out) m
  same_led x out same g = turn_led x out g (subst (IsLed (turned k n x out) n) (sym same) (led_stays k (turned k n x out) g n (node k n).leader (all n)))

  receive_led : (m : ℕ) (body : LetterBody C) → IsTrueOf k m body → (x : NodeState C) (out : List (Letter C))
      → Receives k.members m n (node k n) body x out → Grows k (turned k n x out) → (j : ℕ)
      → HasLeader (turned k n x out) j
  receive_led m body says x out (promises_ballot b report r) g = same_led x out refl g
  receive_led m body says x out (accepts_pvalue p) g = same_led x out refl g
  receive_led m body says x out (hears_promise b report fresh taken may) g =
      leader_led _ (p1b_led laws k n (node k n).leader (i.nodes n).leader (all n) m b fresh taken says.promised
      (node k n).leader.scout refl) g
  receive_led m body says x out (hears_vote b s by) g = leader_led _ (p2b_led laws k n (node k n).leader (i.nodes n).leader (all n) m b s by) g
  receive_led m body says x out (hears_proposal s c) g = leader_led _ (proposed_led laws k n (node k n).leader (i.nodes n).leader (all n) s c) g
  receive_led m body says x out (learns s c) g = same_led x out refl g
  receive_led m body says x out (tells_decisions s) g = same_led x out refl g

module _ (laws : BallotLaws) {O Op Reply : Type 0} (rules : Rules O Op Reply) where
  abbrev AllLed : World Op Reply → Type 0
  AllLed w = (m : ℕ) → HasLeader w.cluster m

  performs_led : (w : World Op Reply) → IsSound w.cluster → AllLed w → (n : ℕ) → is_member w.cluster.members n ≡ true
      → (o : Option (Command Op)) → Grows w.cluster (after_performing rules w n (node w.cluster n).replica o).cluster
      → AllLed (after_performing rules w n (node w.cluster n).replica o)
  performs_led w i all n member None g = all
  performs_led w i all n member (Some c) g = same_led laws w.cluster i all n member _ [] refl g

  step_led : (w v : World Op Reply) (e : Event Op) → IsSound w.cluster → Grows w.cluster v.cluster → Step rules w e v → AllLed w → AllLed v
  step_led w v e i g (submit n c member own) all = same_led laws w.cluster i all n member _ [] refl g
  step_led w v e i g (deliver j l x out at receives) all =
      let fair = Each-at (IsFair w.cluster) w.cluster.letters l i.letters (In-get w.cluster.letters j l at) in
      receive_led laws w.cluster i all l.to fair.receiver l.«from» l.body fair.says x out receives g
  step_led w v e i g (wake n member) all =
      leader_led laws w.cluster i all n member _
      (woken_led laws w.cluster n (node w.cluster n).leader (i.nodes n).leader (all n)) g
  step_led w v e i g (nudge n member) all = same_led laws w.cluster i all n member (node w.cluster n) _ refl g
  step_led w v e i g (propose n member) all = same_led laws w.cluster i all n member _ _ refl g
  step_led w v e i g (perform n member) all = performs_led w i all n member (next_decided (node w.cluster n).replica) g
  step_led w v e i g (restart n member) all =
      turn_led laws w.cluster i all n member (restarted w.cluster.members n (node w.cluster n)) [] g
      (new_led _ n w.cluster.members _)

  first_led : (members : List ℕ) → AllLed (opening members)
  first_led members m = subst (λ (x : NodeState (Command Op)). IsLed
      (opening {Reply = Reply} members).cluster m x.leader) (sym (opened_at members m))
      (new_led (opening {Reply = Reply} members).cluster m members 0)

  every_leader : InEvery rules AllLed
  every_leader = in_every laws rules AllLed first_led
      (λ w v e i s all. let before = reachable_sound laws rules w i.reachable in step_led w v e before (step_sound laws rules w e v before s).grows s all)

  pub has_leader : InEvery rules (λ w. (n : ℕ) → is_member w.cluster.members n ≡ true → HasLeader w.cluster n)
  has_leader w i n member = every_leader w i n
