-- Commands that are chosen in slots one after the other, and that each replica performed such a list.
use Rattle.std.proofs.Common.{◌≡◌, ◌≢◌, inl, inr, ⊎_elim, ℕ, zero, suc, ◌+◌, ◌-◌, ◌<◌, ◌≤◌, Bool, true, false, cond}
use Rattle.std.proofs.Common.{List, [], ◌∷◌, ◌++◌, flat_map, option_to_list, length, Option, Some, None, refl, sym, ap}
use Rattle.std.proofs.Common.{ap₂, ◌∙◌, subst, arith}
use Rattle.std.specs.Prelude.{IsSome}
use Rattle.std.specs.List.{range_with_len}
use Rattle.std.specs.FinMap.{get, insert}
use Rattle.std.proofs.lemmas.Bool.{cases_eq}
use Rattle.object.specs.Lists.{In, IsBeginning}
use Rattle.object.specs.declared.command.Command.{Command}
use Rattle.ballot.specs.Members.{is_member}
use Rattle.ballot.specs.declared.letter.LetterBody.{LetterBody}
use Rattle.ballot.specs.declared.letter.Letter.{Letter}
use Rattle.ballot.specs.Letters.{all_to_all}
use Rattle.leader.specs.Leaders.{woken}
use Rattle.replica.specs.Replicas.{proposes_first}
use Rattle.ballot.specs.Slots.{Slots}
use Rattle.slot_log.specs.Books.{SlotBook}
use Rattle.slot_log.specs.Requests.{is_known, requested}
use Rattle.slot_log.specs.Proposals.{next_proposal, proposed}
use Rattle.slot_log.specs.Decisions.{learnt, next_decided}
use Rattle.slot_log.specs.Advances.{advanced}
use Rattle.agreement.specs.declared.event.Event.{Event}
use Rattle.object.specs.Objects.{Rules, is_one}
use Rattle.slot_log.specs.Histories.{history}
use Rattle.node.specs.Kept.{IsPerformed}
use Rattle.node.specs.Nodes.{NodeState}
use Rattle.agreement.specs.Nodes.{Cluster, node, turned}
use Rattle.agreement.specs.Worlds.{World}
use Rattle.node.specs.Receiving.{Receives, promises_ballot, accepts_pvalue, hears_promise, hears_vote, hears_proposal, learns, tells_decisions}
use Rattle.node.specs.Deeds.{said_again}
use Rattle.agreement.specs.Steps.{Step, submit, deliver, wake, nudge, propose, perform, restart, after_performing as performed_by}
use Rattle.agreement.specs.Chosen.{IsChosen, IsChosenFrom}
use Rattle.agreement.specs.Reached.{IsRun}
use Rattle.object.specs.ListLaws.{Each-at, In-get}
use Rattle.node.specs.SlotLaws.{get_insert_cases}
use Rattle.ballot.specs.OrderLaws.{BallotLaws}
use Rattle.agreement.proofs.chosen.Invariants.{IsFair, IsSound, agree}
use Rattle.agreement.proofs.chosen.Grows.{Grows, chosen_stays}
use Rattle.agreement.proofs.chosen.Turns.{here, there}

pub run_stays : {C : Type 0} (k z : Cluster C) → Grows k z → (s : ℕ) (cs : List C) → IsRun k s cs → IsRun z s cs
run_stays k z g s [] h = tt
run_stays k z g s (c ∷ cs) h = (chosen_stays k z g s c h.0, run_stays k z g (s + 1) cs h.1)

pub run_from : {C : Type 0} (k : Cluster C) (s : ℕ) (cs : List C) → IsChosenFrom k s cs → IsRun k s cs
run_from k s [] h = tt
run_from k s (c ∷ cs) h = (h.0, run_from k (s + 1) cs h.1)

pub run_push : {C : Type 0} (k : Cluster C) (s : ℕ) (cs : List C) (c : C) → IsRun k s cs → IsChosen k (s + length cs) c → IsRun k s (cs ++ (c ∷ []))
run_push k s [] c h chosen = (subst (λ t. IsChosen k t c) (omega arith) chosen, tt)
run_push k s (d ∷ cs) c h chosen = (h.0, run_push k (s + 1) cs c h.1 (subst (λ t. IsChosen k t c) (omega arith) chosen))

-- each of them is chosen somewhere
pub run_chosen : {C : Type 0} (k : Cluster C) (s : ℕ) (cs : List C) → IsRun k s cs → (c : C) → In c cs → (t : ℕ) × IsChosen k t c
run_chosen k s [] h c i = absurd i
run_chosen k s (d ∷ cs) h c (inl e) = (s, subst (IsChosen k s) (sym e) h.0)
run_chosen k s (d ∷ cs) h c (inr i) = run_chosen k (s + 1) cs h.1 c i

module _ (laws : BallotLaws) {C : Type 0} (k : Cluster C) (i : IsSound k) where
  -- of two such lists the shorter is a beginning of the longer
  pub run_within : (s : ℕ) (cs ds : List C) → IsRun k s cs → IsRun k s ds → length cs ≤ length ds → IsBeginning cs ds
  run_within s [] ds h f le = (ds, refl)
  run_within s (c ∷ cs) [] h f le = absurd (omega arith)
  run_within s (c ∷ cs) (d ∷ ds) h f le =
      let p = run_within (s + 1) cs ds h.1 f.1 (omega arith) in
      (p.0, ap₂ (λ x xs. x ∷ xs) (agree laws k i s d c f.0 h.0) p.1)

  -- two such lists of one length are one
  pub same_run : (s : ℕ) (cs ds : List C) → IsRun k s cs → IsRun k s ds → length cs ≡ length ds → cs ≡ ds
  same_run s [] [] h f e = refl
  same_run s [] (d ∷ ds) h f e = absurd (omega arith)
  same_run s (c ∷ cs) [] h f e = absurd (omega arith)
  same_run s (c ∷ cs) (d ∷ ds) h f e = ap₂ (λ x xs. x ∷ xs) (agree laws k i s c d h.0 f.0) (same_run (s + 1) cs ds h.1 f.1 (omega arith))

  -- and each is a beginning of all chosen commands
  pub run_of_all : (s : ℕ) (cs all : List C) → IsRun k s cs → IsChosenFrom k s all → IsBeginning cs all
  run_of_all s [] all h f = (all, refl)
  run_of_all s (c ∷ cs) [] h f = absurd (f c h.0)
  run_of_all s (c ∷ cs) (d ∷ ds) h f =
      let p = run_of_all (s + 1) cs ds h.1 f.1 in
      (p.0, ap₂ (λ x xs. x ∷ xs) (agree laws k i s d c f.0 h.0) p.1)

some_of : {C : Type 0} (o : Option C) → IsSome o → (c : C) × (o ≡ Some c)
some_of None h = absurd (cc)
some_of (Some c) h = (c, refl)

is_there : {C : Type 0} (o : Option C) (c : C) → o ≡ Some c → IsSome o
is_there o c e = subst IsSome (sym e) refl

abbrev Listed : {C : Type 0} → Cluster C → ℕ → ℕ → List C → Type 0
Listed k s n cs = IsRun k s cs × (length cs ≡ n)

listed_step : {C : Type 0} (k : Cluster C) (s n : ℕ) (c : C) (o : Option C) (rest : List C) → o ≡ Some c
    → IsChosen k s c → Listed k (s + 1) n rest → Listed k s (suc n) (option_to_list o ++ rest)
listed_step {C} k s n c o rest e chosen h = subst (λ (p : Option C). Listed k s (suc n) (option_to_list p ++ rest)) (sym e) ((chosen, h.0), ap suc h.1)

listed : {C : Type 0} (k : Cluster C) (m : Slots C) (s n : ℕ)
    → ((t : ℕ) → s ≤ t → t < s + n → (c : C) × (get m t ≡ Some c) × IsChosen k t c)
    → Listed k s n (flat_map (λ t. option_to_list (get m t)) (range_with_len s n))
listed k m s zero h = (tt, refl)
listed k m s (suc n) h =
    let c = h s (omega arith) (omega arith) in
    listed_step k s n c.0 (get m s) (flat_map (λ t. option_to_list (get m t)) (range_with_len (s + 1) n)) c.1 c.2
    (listed k m (s + 1) n (λ t low high. h t (omega arith) (omega arith)))

-- what a replica performed is chosen, and there is a command for each slot
pub history_run : {C : Type 0} (k : Cluster C) → IsSound k → (n : ℕ) → IsPerformed (node k n).replica
    → IsRun k 1 (history (node k n).replica) × (length (history (node k n).replica) + 1 ≡ (node k n).replica.slot_out)
history_run k i n full =
    let h = listed k (node k n).replica.decisions 1 ((node k n).replica.slot_out - 1)
    (λ t low high. let a = full.first in let c =
    some_of (get (node k n).replica.decisions t)
    (full.known t low (omega arith)) in (c.0, c.1, (i.nodes n).decisions t c.0 c.1)) in
    (h.0, let a = full.first in let e = h.1 in omega arith)

same_full : {C : Type 0} (r z : SlotBook C) → r.slot_out ≡ z.slot_out → r.decisions ≡ z.decisions → IsPerformed r → IsPerformed z
same_full {C} r z e f h = record {
  first = subst (λ n. 0 < n) e h.first;
  known = λ s low high. subst (λ (m : Slots C). IsSome (get m s)) f (h.known s low (subst (λ n. s < n) (sym e) high));
}

requested_full : {C : Type 0} (same : C → C → Bool) (r : SlotBook C) (c : C) → IsPerformed r → IsPerformed (requested same r c)
requested_full same r c h = at (is_known same r c)
  where
    at : (test : Bool) → IsPerformed (cond test r (record r { requests = r.requests ++ (c ∷ []) }))
    at true = h
    at false = same_full r (record r { requests = r.requests ++ (c ∷ []) }) refl refl h

proposed_full : {C : Type 0} (r : SlotBook C) (o : Option (ℕ × C)) → IsPerformed r → IsPerformed (proposed r o)
proposed_full r None h = h
proposed_full r (Some p) h = same_full r (proposed r (Some p)) refl refl h

learnt_full : {C : Type 0} (r : SlotBook C) (s : ℕ) (c : C) → IsPerformed r → IsPerformed (learnt r s c)
learnt_full {C} r s c h = record {
  first = h.first;
  known = λ t low high. ⊎_elim
      (λ (same : (t ≡ s) × (get (insert r.decisions s c) t ≡ Some c)). is_there (get (insert r.decisions s c) t) c same.1)
      (λ (apart : (t ≢ s) × (get (insert r.decisions s c) t ≡ get r.decisions t)). subst IsSome (sym apart.1) (h.known t low high))
      (get_insert_cases r.decisions s c t);
}

advanced_full : {C : Type 0} (same : C → C → Bool) (r : SlotBook C) (c : C) → next_decided r ≡ Some c → IsPerformed r → IsPerformed (advanced same r)
advanced_full {C} same r c e h = record {
  first = omega arith;
  known = λ t low high. ⊎_elim
      (λ (last : t ≡ r.slot_out). is_there (get r.decisions t) c (ap (λ s. get r.decisions s) last ∙ e))
      (λ (n : t ≢ r.slot_out). h.known t low (omega arith))
      (cases_eq t r.slot_out);
}

receives_full : {C : Type 0} (members : List ℕ) (m n : ℕ) (x : NodeState C) (body : LetterBody C) (z : NodeState C)
    (out : List (Letter C)) → Receives members m n x body z out → IsPerformed x.replica → IsPerformed z.replica
receives_full members m n x body z out (promises_ballot b report r) h = h
receives_full members m n x body z out (accepts_pvalue p) h = h
receives_full members m n x body z out (hears_promise b report fresh taken may) h = h
receives_full members m n x body z out (hears_vote b s by) h = h
receives_full members m n x body z out (hears_proposal s c) h = h
receives_full members m n x body z out (learns s c) h = learnt_full x.replica s c h
receives_full members m n x body z out (tells_decisions s) h = h

-- all replicas do
abbrev pub AllPerformed : {C : Type 0} → Cluster C → Type 0
AllPerformed k = (m : ℕ) → IsPerformed (node k m).replica

-- what holds of each replica still does after a node's turn, where it holds of that node's
pub turn_all : (laws : BallotLaws) {C : Type 0} (P : SlotBook C → Type 0) (k : Cluster C) (i : IsSound k) (n : ℕ)
    (member : is_member k.members n ≡ true) (x : NodeState C) (out : List (Letter C)) → ((m : ℕ) → P (node k m).replica)
    → P x.replica → (m : ℕ) → P (node (turned k n x out) m).replica
turn_all laws {C} P k i n member x out f fx m = ⊎_elim
    (λ (e : m ≡ n). subst (λ z. P (node (turned k n x out) z).replica) (sym e)
    (subst (λ (y : NodeState C). P y.replica) (sym (here laws k i n member x out)) fx))
    (λ (apart : m ≢ n). subst (λ (y : NodeState C). P y.replica) (sym (there laws k i n member x out m apart)) (f m))
    (cases_eq m n)

turn_full : (laws : BallotLaws) {C : Type 0} (k : Cluster C) (i : IsSound k) (n : ℕ)
    (member : is_member k.members n ≡ true) (x : NodeState C) (out : List (Letter C)) → AllPerformed k
    → IsPerformed x.replica → AllPerformed (turned k n x out)
turn_full laws k i n member x out f fx = turn_all laws (λ r. IsPerformed r) k i n member x out f fx

module _ (laws : BallotLaws) {O Op Reply : Type 0} (rules : Rules O Op Reply) where
  performs_full : (v : World Op Reply) → IsSound v.cluster → (n : ℕ) → is_member v.cluster.members n ≡ true
      → AllPerformed v.cluster → (o : Option (Command Op)) → next_decided (node v.cluster n).replica ≡ o
      → AllPerformed (performed_by rules v n (node v.cluster n).replica o).cluster
  performs_full v i n member f None e = f
  performs_full v i n member f (Some c) e = turn_full laws v.cluster i n member _ [] f (advanced_full (is_one rules) (node v.cluster n).replica c e (f n))

  pub step_full : (v : World Op Reply) (e : Event Op) (u : World Op Reply) → IsSound v.cluster → Step rules v e u
      → AllPerformed v.cluster → AllPerformed u.cluster
  step_full v e u i (submit n c member own) f = turn_full laws v.cluster i n member _ [] f (requested_full (is_one rules) (node v.cluster n).replica c (f n))
  step_full v e u i (deliver j l x out at receives) f =
      let fair = Each-at (IsFair v.cluster) v.cluster.letters l i.letters (In-get v.cluster.letters j l at) in
      turn_full laws v.cluster i l.to fair.receiver x out f (receives_full v.cluster.members l.«from» l.to (node v.cluster l.to) l.body x out receives (f l.to))
  step_full v e u i (wake n member) f = turn_full laws v.cluster i n member _ (all_to_all v.cluster.members n (woken (node v.cluster n).leader).says) f (f n)
  step_full v e u i (nudge n member) f = turn_full laws v.cluster i n member (node v.cluster n) (said_again v.cluster.members n (node v.cluster n)) f (f n)
  step_full v e u i (propose n member) f =
      turn_full laws v.cluster i n member _
      (all_to_all v.cluster.members n (proposes_first (next_proposal (node v.cluster n).replica))) f
      (proposed_full (node v.cluster n).replica (next_proposal (node v.cluster n).replica) (f n))
  step_full v e u i (perform n member) f = performs_full v i n member f (next_decided (node v.cluster n).replica) refl
  step_full v e u i (restart n member) f =
      turn_full laws v.cluster i n member _ [] f
      (record { first = omega arith; known = λ s low high. absurd (omega arith) })
