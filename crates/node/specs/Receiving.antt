-- What a node makes of a letter. Each case of `Receives` is one row of the node table in docs/NODES.md.
use Rattle.std.specs.Prelude.{◌≡◌, ℕ, ◌<◌, ◌^◌, ⊤, true, List, [], ◌∷◌, ◌++◌, map, Option, None, Some}
use Rattle.std.specs.FinMap.{get, contains_key}
use Rattle.ballot.specs.Ballots.{Numbers, higher}
use Rattle.ballot.specs.Letters.{letter, all_to_all}
use Rattle.ballot.specs.declared.pvalue.Pvalue.{Pvalue}
use Rattle.ballot.specs.declared.letter.LetterBody.{LetterBody}
use Rattle.ballot.specs.declared.letter.LetterBody.TheVariants.{P1a, P1b, P2a, P2b, Propose, Decision, Ask}
use Rattle.ballot.specs.declared.letter.Letter.{Letter}
use Rattle.acceptor.specs.Acceptors.{Keeps, after_p1a, after_p2a}
use Rattle.acceptor.specs.Reports.{IsReport}
use Rattle.ballot.specs.Slots.{Slots}
use Rattle.leader.specs.Leaders.{on_propose}
use Rattle.leader.specs.Promises.{Hears}
use Rattle.leader.specs.Promises as promises
use Rattle.leader.specs.Votes as votes
use Rattle.slot_log.specs.Decisions.{learnt}
use Rattle.replica.specs.Replicas.{tells}
use Rattle.node.specs.Nodes.{NodeState, members_of, number_of}
use Rattle.node.specs.Deeds.{led}

-- Node x, of number n, receives a body from m: what it becomes, and the letters that it sends. What an acceptor reports
-- is free within `IsReport`; and in what order the pvalues of a report are gathered, and which proposals an adopted leader
-- takes, within `Hears`.
pub data Receives {C : Type 0} (members : List ℕ) (m n : ℕ) (x : NodeState C) : LetterBody C → NodeState C → List (Letter C) → Type 0 where
  promises_ballot :
      (b : Numbers) (report : List (Pvalue C))
      → IsReport x.acceptor.accepted report
      → Receives members m n x (P1a b) (record x { acceptor = after_p1a x.acceptor b }) (letter n (P1b (higher x.acceptor.promised b) report) m ∷ [])
  accepts_pvalue :
      (p : Pvalue C)
      → Receives members m n x (P2a p) (record x { acceptor = after_p2a x.acceptor p }) (letter n (P2b x.acceptor.promised p.slot p.ballot) m ∷ [])
  hears_promise :
      (b : Numbers) (report fresh : List (Pvalue C)) (taken : Slots C)
      → Hears x.leader m b report fresh taken
      → Receives members m n x (P1b b report) (led x (promises.on_p1b x.leader m b fresh taken))
      (all_to_all members n (promises.on_p1b x.leader m b fresh taken).says)
  hears_vote :
      (b : Option Numbers) (s : ℕ) (by : Numbers)
      → Receives members m n x (P2b b s by) (led x (votes.on_p2b x.leader m b s by)) (all_to_all members n (votes.on_p2b x.leader m b s by).says)
  hears_proposal :
      (s : ℕ) (c : C)
      → Receives members m n x (Propose s c) (led x (on_propose x.leader s c)) (all_to_all members n (on_propose x.leader s c).says)
  learns :
      (s : ℕ) (c : C)
      → Receives members m n x (Decision s c) (record x { replica = learnt x.replica s c }) []
  tells_decisions :
      (s : ℕ)
      → Receives members m n x (Ask s) x (map (λ b. letter n b m) (tells x.replica s))

-- what is received is of no last round, and of no other decision than the one that is known
abbrev pub IsFit : {C : Type 0} → NodeState C → LetterBody C → Type 0
IsFit x (P1a b) = ⊤
IsFit x (P1b b report) = b.round < 2 ^ 62
IsFit x (P2a p) = ⊤
IsFit x (P2b o s by) = (b : Numbers) → o ≡ Some b → b.round < 2 ^ 62
IsFit x (Propose s c) = ⊤
IsFit {C} x (Decision s c) = (d : C) → get x.replica.decisions s ≡ Some d → d ≡ c
IsFit x (Ask s) = ⊤

-- what is received says nothing new: it is a promise or a vote that nobody waits for, a proposal for a slot that has
-- one, or a decision of a slot whose decision is known
abbrev pub SaysNothingNew : {C : Type 0} → NodeState C → LetterBody C → Type 0
SaysNothingNew x (P1a b) = ⊥
SaysNothingNew x (P1b b report) = x.leader.scout ≡ None
SaysNothingNew x (P2a p) = ⊥
SaysNothingNew x (P2b o s by) = get x.leader.commanders s ≡ None
SaysNothingNew x (Propose s c) = contains_key x.leader.proposals s ≡ true
SaysNothingNew x (Decision s c) = contains_key x.replica.decisions s ≡ true
SaysNothingNew x (Ask s) = ⊥

-- node x received a body from m: it became y, and the letters that it sent stand after those before
abbrev pub Received : {C : Type 0} → ℕ → NodeState C → LetterBody C → NodeState C → List (Letter C) → List (Letter C) → Type 0
Received {C} m x body y before now =
    (sent : List (Letter C)) × Receives (members_of x) m (number_of x) x body y sent × (now ≡ before ++ sent)

-- the one node shows the other: they are equal, but that its acceptor may keep less of what was accepted, if that is
-- enough for a report
pub record ShowsNode {C : Type 0} (kept x : NodeState C) : Type 0 where
  pub acceptor : Keeps x.acceptor kept.acceptor
  pub boot : kept.boot ≡ x.boot
  pub leader : kept.leader ≡ x.leader
  pub replica : kept.replica ≡ x.replica

-- node `kept` received a body from m, and became `new`: each node that was shown has received it too, and what that
-- became is shown now
abbrev pub ShowsReceived : {C : Type 0} → ℕ → NodeState C → LetterBody C → NodeState C → List (Letter C) → List (Letter C) → Type 0
ShowsReceived {C} m kept body new before now =
    (x : NodeState C) → ShowsNode kept x → (y : NodeState C) × ShowsNode new y × Received m x body y before now
