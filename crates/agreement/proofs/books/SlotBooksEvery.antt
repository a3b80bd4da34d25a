-- The book of every replica, in every world, is as books are.
use Rattle.std.proofs.Common.{◌≡◌, ◌≢◌, ⊎_elim, ℕ, ◌+◌, true, List, [], Some, None, Option, refl, sym, subst, arith}
use Rattle.std.proofs.lemmas.Bool.{cases_eq}
use Rattle.object.specs.ListLaws.{Each-at, In-get}
use Rattle.object.specs.Objects.{Rules, is_one}
use Rattle.object.specs.declared.command.Command.{Command}
use Rattle.ballot.specs.Letters.{all_to_all}
use Rattle.ballot.specs.Members.{is_member}
use Rattle.ballot.specs.OrderLaws.{BallotLaws}
use Rattle.ballot.specs.declared.letter.Letter.{Letter}
use Rattle.ballot.specs.declared.letter.LetterBody.{LetterBody}
use Rattle.leader.specs.Leaders.{woken}
use Rattle.slot_log.specs.Decisions.{next_decided}
use Rattle.slot_log.specs.Proposals.{next_proposal}
use Rattle.replica.specs.Replicas.{proposes_first}
use Rattle.node.specs.Deeds.{said_again}
use Rattle.node.specs.Nodes.{NodeState}
use Rattle.node.specs.Receiving.{Receives, promises_ballot, accepts_pvalue, hears_promise, hears_vote, hears_proposal, learns, tells_decisions}
use Rattle.agreement.specs.declared.event.Event.{Event}
use Rattle.agreement.specs.Nodes.{Cluster, node, turned}
use Rattle.agreement.specs.Runs.{InEvery}
use Rattle.agreement.specs.SlotBooks.{IsBookAfter}
use Rattle.agreement.specs.Steps.{Step, submit, deliver, wake, nudge, propose, perform, restart, after_performing}
use Rattle.agreement.specs.Worlds.{World}
use Rattle.agreement.proofs.chosen.Invariants.{IsFair, IsSound}
use Rattle.agreement.proofs.books.LeadingRuns.{in_every}
use Rattle.agreement.proofs.chosen.Reach.{opened_at, reachable_sound}
use Rattle.agreement.proofs.books.SlotBooks.{new_booked, more_booked, requested_booked, learnt_booked, proposed_next_booked, advanced_booked}
use Rattle.agreement.proofs.chosen.Turns.{here, there}

receives_booked : {C : Type 0} (members : List ℕ) (m n : ℕ) (x : NodeState C) (body : LetterBody C) (z : NodeState C)
    (out : List (Letter C)) (count : ℕ) → Receives members m n x body z out → IsBookAfter count x.replica
    → IsBookAfter count z.replica
receives_booked members m n x body z out count (promises_ballot b report r) h = h
receives_booked members m n x body z out count (accepts_pvalue p) h = h
receives_booked members m n x body z out count (hears_promise b report fresh taken may) h = h
receives_booked members m n x body z out count (hears_vote b s by) h = h
receives_booked members m n x body z out count (hears_proposal s c) h = h
receives_booked members m n x body z out count (learns s c) h = learnt_booked x.replica s c count h
receives_booked members m n x body z out count (tells_decisions s) h = h

abbrev AllBooked : {C : Type 0} → ℕ → Cluster C → Type 0
AllBooked count k = (m : ℕ) → IsBookAfter count (node k m).replica

module _ (laws : BallotLaws) {C : Type 0} (k : Cluster C) (i : IsSound k) (count : ℕ) (all : AllBooked count k) (n : ℕ)
    (member : is_member k.members n ≡ true) where
  turn_booked : (x : NodeState C) (out : List (Letter C)) → IsBookAfter (count + 1) x.replica → AllBooked (count + 1) (turned k n x out)
  turn_booked x out fine m = ⊎_elim
      (λ (e : m ≡ n). subst (λ z. IsBookAfter (count + 1) (node (turned k n x out) z).replica) (sym e)
      (subst (λ (y : NodeState C). IsBookAfter (count + 1) y.replica) (sym (here laws k i n member x out)) fine))
      (λ (apart : m ≢ n). subst (λ (y : NodeState C). IsBookAfter (count + 1) y.replica)
      (sym (there laws k i n member x out m apart))
      (more_booked count (count + 1) (omega arith) (node k m).replica (all m)))
      (cases_eq m n)

  -- the pending commands are no more than before
  calm_booked : (x : NodeState C) (out : List (Letter C)) → IsBookAfter count x.replica → AllBooked (count + 1) (turned k n x out)
  calm_booked x out fine = turn_booked x out (more_booked count (count + 1) (omega arith) x.replica fine)

module _ (laws : BallotLaws) {O Op Reply : Type 0} (rules : Rules O Op Reply) where
  performs_booked : (w : World Op Reply) → IsSound w.cluster → AllBooked w.taken w.cluster → (n : ℕ)
      → is_member w.cluster.members n ≡ true → (o : Option (Command Op)) → next_decided (node w.cluster n).replica ≡ o
      → AllBooked ((after_performing rules w n (node w.cluster n).replica o).taken + 1)
      (after_performing rules w n (node w.cluster n).replica o).cluster
  performs_booked w i all n member None e = λ m. more_booked w.taken (w.taken + 1) (omega arith) (node w.cluster m).replica (all m)
  performs_booked w i all n member (Some c) e =
      calm_booked laws w.cluster i w.taken all n member _ []
      (advanced_booked (is_one rules) (node w.cluster n).replica c w.taken e (all n))

  step_booked : (w v : World Op Reply) (e : Event Op) → IsSound w.cluster → Step rules w e v → AllBooked w.taken w.cluster → AllBooked v.taken v.cluster
  step_booked w v e i (submit n c member own) all =
      turn_booked laws w.cluster i w.taken all n member _ []
      (requested_booked (is_one rules) (node w.cluster n).replica c w.taken (all n))
  step_booked w v e i (deliver j l x out at receives) all =
      let fair = Each-at (IsFair w.cluster) w.cluster.letters l i.letters (In-get w.cluster.letters j l at) in
      calm_booked laws w.cluster i w.taken all l.to fair.receiver x out
      (receives_booked w.cluster.members l.«from» l.to (node w.cluster l.to) l.body x out w.taken receives
      (all l.to))
  step_booked w v e i (wake n member) all =
      calm_booked laws w.cluster i w.taken all n member _
      (all_to_all w.cluster.members n (woken (node w.cluster n).leader).says) (all n)
  step_booked w v e i (nudge n member) all =
      calm_booked laws w.cluster i w.taken all n member (node w.cluster n)
      (said_again w.cluster.members n (node w.cluster n)) (all n)
  step_booked w v e i (propose n member) all =
      calm_booked laws w.cluster i w.taken all n member _
      (all_to_all w.cluster.members n (proposes_first (next_proposal (node w.cluster n).replica)))
      (proposed_next_booked (node w.cluster n).replica w.taken (all n))
  step_booked w v e i (perform n member) all = performs_booked w i all n member (next_decided (node w.cluster n).replica) refl
  step_booked w v e i (restart n member) all = turn_booked laws w.cluster i w.taken all n member _ [] (new_booked (w.taken + 1))

  pub books : InEvery rules (λ w. (n : ℕ) → IsBookAfter w.taken (node w.cluster n).replica)
  books = in_every laws rules (λ w. AllBooked w.taken w.cluster)
      (λ members n. subst (λ (x : NodeState (Command Op)). IsBookAfter 0 x.replica) (sym (opened_at members n)) (new_booked 0))
      (λ w v e i s all. step_booked w v e (reachable_sound laws rules w i.reachable) s all)
