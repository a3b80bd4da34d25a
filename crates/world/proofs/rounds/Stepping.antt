-- What node 1 becomes by an event of its own, and what stays.
use Rattle.std.proofs.Common.{◌≡◌, ◌≢◌, inl, ⊎_elim, ℕ, ◌+◌, ◌≤◌, Bool, true, false, cond, List, [], ◌++◌}
use Rattle.std.proofs.Common.{Some, is_some, refl, sym, ap, ap₂, ◌∙◌, subst, arith}
use Rattle.std.proofs.lemmas.Bool.{cases_eq}
use Rattle.std.specs.FinMap.{empty, contains_key, insert, len, len-insert, len-empty, get-empty}
use Rattle.std.specs.Ordering.{nat_cmp}
use Rattle.std.specs.Cmp.{nat_cmp_total}
use Rattle.object.specs.declared.command.Command.{Command}
use Rattle.object.specs.Objects.{Rules, is_one}
use Rattle.ballot.specs.Ballots.{Numbers}
use Rattle.ballot.specs.Letters.{all_to_all}
use Rattle.ballot.specs.OrderLaws.{BallotLaws}
use Rattle.ballot.specs.declared.letter.Letter.{Letter}
use Rattle.ballot.specs.declared.letter.LetterBody.{LetterBody}
use Rattle.ballot.specs.declared.letter.LetterBody.TheVariants.{Propose, Decision}
use Rattle.scout_commander.specs.Commanders.{Commanding, new_commander}
use Rattle.leader.specs.Leaders.{Leading, Done, pvalue, commands, silently, on_propose}
use Rattle.slot_log.specs.Books.{SlotBook}
use Rattle.slot_log.specs.Proposals.{next_proposal, proposed_next}
use Rattle.slot_log.specs.Decisions.{learnt, next_decided}
use Rattle.slot_log.specs.Advances.{advanced}
use Rattle.replica.specs.Replicas.{proposes_first}
use Rattle.node.specs.Nodes.{NodeState}
use Rattle.node.specs.Deeds.{led}
use Rattle.node.specs.Receiving.{Receives, hears_proposal, learns}
use Rattle.agreement.specs.Nodes.{node, turned}
use Rattle.agreement.specs.Worlds.{World}
use Rattle.agreement.specs.Steps.{Step, propose, perform, counted, with_cluster, replica_turn, after_performing}
use Rattle.agreement.specs.declared.event.Event.TheVariants as events
use Rattle.agreement.proofs.chosen.Turns.{here, there}
use Rattle.world.specs.WaysOut.{first_leader, first_book, rivals, work, IsAtRest, IsToFirst, Proposes, Decides}
use Rattle.world.proofs.rounds.Hearing.{received}
use Rattle.world.proofs.rounds.Rivals.{no_more_rivals, work_of}
use Rattle.world.proofs.rounds.RoundMembers.{HasFirst}

-- node 1 became x and sent these letters; acceptors, all other nodes and what was submitted stay
pub record IsTurned {Op Reply : Type 0} (w v : World Op Reply) (x : NodeState (Command Op)) (out : List (Letter (Command Op))) : Type 0 where
  pub first : node v.cluster 1 ≡ x
  pub acceptors : (j : ℕ) → (node v.cluster j).acceptor ≡ (node w.cluster j).acceptor
  pub members : v.cluster.members ≡ w.cluster.members
  pub letters : v.cluster.letters ≡ w.cluster.letters ++ out
  pub submitted : v.happenings.submitted ≡ w.happenings.submitted
  pub count : v.taken ≡ w.taken + 1

-- replica 1 has this book then; the leader of node 1 and what was submitted stay, and there is no more work
pub record TurnsBook {Op Reply : Type 0} (w v : World Op Reply) (b : SlotBook (Command Op)) : Type 0 where
  pub book : first_book v.cluster ≡ b
  pub leader : first_leader v.cluster ≡ first_leader w.cluster
  pub at_rest : IsAtRest w.cluster → IsAtRest v.cluster
  pub spent : v.taken + work v.cluster ≤ w.taken + work w.cluster + 1
  pub submitted : v.happenings.submitted ≡ w.happenings.submitted

module _ (laws : BallotLaws) {Op Reply : Type 0} (w : World Op Reply) (h : HasFirst w.cluster)
    (x : NodeState (Command Op)) (out : List (Letter (Command Op))) (same : x.acceptor ≡ (node w.cluster 1).acceptor) where
  acceptors_stay : (j : ℕ) → (node (turned w.cluster 1 x out) j).acceptor ≡ (node w.cluster j).acceptor
  acceptors_stay j = ⊎_elim
      (λ (e : j ≡ 1). subst (λ n. (node (turned w.cluster 1 x out) n).acceptor ≡ (node w.cluster n).acceptor) (sym e)
      (ap (λ y. y.acceptor) (here laws w.cluster h.sound 1 h.first x out) ∙ same))
      (λ (apart : j ≢ 1). ap (λ y. y.acceptor) (there laws w.cluster h.sound 1 h.first x out j apart))
      (cases_eq j 1)

  pub turned_first : IsTurned w (counted (with_cluster w (turned w.cluster 1 x out))) x out
  turned_first = record {
    first = here laws w.cluster h.sound 1 h.first x out;
    acceptors = acceptors_stay;
    members = refl;
    letters = refl;
    submitted = refl;
    count = refl;
  }

  turned_so : (v : World Op Reply) → v ≡ counted (with_cluster w (turned w.cluster 1 x out)) → IsTurned w v x out
  turned_so v is = subst (λ z. IsTurned w z x out) (sym is) turned_first

-- what a letter for a proposal or a decision makes of a node
proposal_received : {C : Type 0} (members : List ℕ) (m n : ℕ) (x : NodeState C) (s : ℕ) (c : C) (y : NodeState C)
    (out : List (Letter C)) → Receives members m n x (Propose s c) y out
    → (y ≡ led x (on_propose x.leader s c)) × (out ≡ all_to_all members n (on_propose x.leader s c).says)
proposal_received members m n x s c _ _ (hears_proposal t d) = (refl, refl)

decision_received : {C : Type 0} (members : List ℕ) (m n : ℕ) (x : NodeState C) (s : ℕ) (c : C) (y : NodeState C)
    (out : List (Letter C)) → Receives members m n x (Decision s c) y out
    → (y ≡ record x { replica = learnt x.replica s c }) × (out ≡ [])
decision_received members m n x s c _ _ (learns t d) = (refl, refl)

module _ (laws : BallotLaws) {O Op Reply : Type 0} (rules : Rules O Op Reply) (w v : World Op Reply) (h : HasFirst w.cluster) where
  -- node 1 with another leader, or with another book
  abbrev with_leader : Done (Leading (Command Op)) (Command Op) → NodeState (Command Op)
  with_leader d = led (node w.cluster 1) d

  abbrev with_book : SlotBook (Command Op) → NodeState (Command Op)
  with_book b = record (node w.cluster 1) { replica = b }

  -- a letter of this kind reached node 1, which became this and sent those
  reached : {kind : ℕ → Command Op → LetterBody (Command Op)} {j s : ℕ} (l : IsToFirst kind w.cluster.letters j s)
      (x : NodeState (Command Op)) (out : List (Letter (Command Op))) → x.acceptor ≡ (node w.cluster 1).acceptor
      → ((y : NodeState (Command Op)) (sent : List (Letter (Command Op)))
      → Receives w.cluster.members l.letter.«from» 1 (node w.cluster 1) (kind s l.command) y sent → (y ≡ x) × (sent ≡ out))
      → Step rules w (events.Deliver j) v → IsTurned w v x out
  reached {kind = kind} {j = j} {s = s} l x out same becomes step =
      let r = received rules w v j l.letter l.at step in
      let at_node = subst (λ (n : ℕ). Receives w.cluster.members l.letter.«from» n (node w.cluster n) l.letter.body r.state r.sent) l.to r.receives in
      let b = becomes r.state r.sent
      (subst (λ (y : LetterBody (Command Op)). Receives w.cluster.members l.letter.«from» 1 (node w.cluster 1) y r.state r.sent) l.body at_node) in
      turned_so laws w h x out same v
      (subst (λ n. v ≡ counted (with_cluster w (turned w.cluster n r.state r.sent))) l.to r.is
      ∙ ap₂ (λ y o. counted (with_cluster w (turned w.cluster 1 y o))) b.0 b.1)

  -- a proposal reached node 1
  pub proposal_turned : {j s : ℕ} (l : Proposes w.cluster.letters j s) → Step rules w (events.Deliver j) v
      → IsTurned w v (with_leader (on_propose (first_leader w.cluster) s l.command))
      (all_to_all w.cluster.members 1 (on_propose (first_leader w.cluster) s l.command).says)
  proposal_turned {s = s} l step = reached l _ _ refl
      (λ y sent r. proposal_received w.cluster.members l.letter.«from» 1 (node w.cluster 1) s l.command y sent r) step

  -- and a decision did
  pub decision_turned : {j s : ℕ} (l : Decides w.cluster.letters j s) → Step rules w (events.Deliver j) v
      → IsTurned w v (with_book (learnt (first_book w.cluster) s l.command)) []
  decision_turned {s = s} l step = reached l _ _ refl
      (λ y sent r. decision_received w.cluster.members l.letter.«from» 1 (node w.cluster 1) s l.command y sent r) step

  -- replica 1 proposed
  propose_is : (z : World Op Reply) → Step rules w (events.Propose 1) z
      → z ≡ counted (with_cluster w (replica_turn w.cluster 1 (proposed_next (first_book w.cluster))
      (all_to_all w.cluster.members 1 (proposes_first (next_proposal (first_book w.cluster))))))
  propose_is _ (propose n member) = refl

  pub propose_turned : Step rules w (events.Propose 1) v → IsTurned w v (with_book (proposed_next (first_book w.cluster)))
      (all_to_all w.cluster.members 1 (proposes_first (next_proposal (first_book w.cluster))))
  propose_turned step = turned_so laws w h _ _ refl v (propose_is v step)

  -- replica 1 performed the next decision
  perform_is : (z : World Op Reply) → Step rules w (events.Perform 1) z
      → z ≡ counted (after_performing rules w 1 (first_book w.cluster) (next_decided (first_book w.cluster)))
  perform_is _ (perform n member) = refl

  pub perform_turned : (c : Command Op) → next_decided (first_book w.cluster) ≡ Some c → Step rules w (events.Perform 1) v
      → IsTurned w v (with_book (advanced (is_one rules) (first_book w.cluster))) []
  perform_turned c known step =
      let t = turned_first laws w h (with_book (advanced (is_one rules) (first_book w.cluster))) [] refl in
      subst (λ z. IsTurned w z (with_book (advanced (is_one rules) (first_book w.cluster))) [])
      (sym (perform_is v step ∙ ap (λ o. counted (after_performing rules w 1 (first_book w.cluster) o)) known))
      (record { first = t.first; acceptors = t.acceptors; members = refl; letters = refl; submitted = refl; count = refl })

-- the rivals of a ballot, and what follows for the work
module _ (laws : BallotLaws) {Op Reply : Type 0} {w v : World Op Reply} {x : NodeState (Command Op)}
    {out : List (Letter (Command Op))} (t : IsTurned w v x out) where
  pub rivals_turned : (b : Numbers) → rivals v.cluster b ≤ rivals w.cluster b
  rivals_turned b = no_more_rivals laws w.cluster v.cluster t.members b (λ j. inl (ap (λ a. a.promised) (t.acceptors j)))

  pub leader_turned : first_leader v.cluster ≡ x.leader
  leader_turned = ap (λ y. y.leader) t.first

  work_stays : first_leader v.cluster ≡ first_leader w.cluster → work v.cluster ≤ work w.cluster
  work_stays e =
      let a = work_of v.cluster (first_leader w.cluster) e in
      let r = rivals_turned (first_leader w.cluster).ballot in
      omega arith

  -- where the leader stays
  pub turns_book : x.leader ≡ first_leader w.cluster → TurnsBook w v x.replica
  turns_book same =
      let e = leader_turned ∙ same in
      record {
        book = ap (λ y. y.replica) t.first;
        leader = e;
        at_rest = λ s. record { active = ap (λ l. l.active) e ∙ s.active; done = ap (λ l. l.commanders) e ∙ s.done };
        spent = let a = work_stays e in let count = t.count in omega arith;
        submitted = t.submitted;
      }

-- a leader at rest takes a proposal for a slot where it has none
pub takes_proposal : {C : Type 0} (l : Leading C) (s : ℕ) (c : C) → l.active ≡ true → contains_key l.proposals s ≡ false → on_propose l s c ≡ commands l s c
takes_proposal {C} l s c active none = at (contains_key l.proposals s) l.active none active
  where
    at : (b a : Bool) → b ≡ false → a ≡ true
        → cond {A = Done (Leading C) C} b (silently l)
        (cond a (commands l s c) (silently (record l { proposals = insert l.proposals s c }))) ≡ commands l s c
    at true a e f = absurd (cc)
    at false true e f = refl
    at false false e f = absurd (cc)

-- and has then one commander
pub one_commander : {C : Type 0} (l : Leading C) (s : ℕ) (c : C) → l.commanders ≡ empty → len (commands l s c).state.commanders ≡ 1
one_commander {C} l s c done =
    len-insert nat_cmp_total l.commanders s (new_commander l.members (pvalue l.ballot s c))
    ∙ ap₂ (λ b n. cond b n (n + 1)) (ap (λ cs. contains_key cs s) done ∙ ap is_some (get-empty nat_cmp s)) (ap len done ∙ len-empty nat_cmp (Commanding C))
