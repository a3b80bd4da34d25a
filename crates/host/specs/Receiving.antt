-- What comes of an envelope at a host.
use Rattle.std.specs.Prelude.{◌≡◌, ◌≢◌, ◌⊎◌, ℕ, ⊤, false, List, [], ◌∷◌, ◌++◌, None, Some, is_none}
use Rattle.object.specs.declared.command.Command.{Command}
use Rattle.ballot.specs.Rests.{rest_of_body}
use Rattle.ballot.specs.declared.letter.Letter.{Letter}
use Rattle.ballot.specs.declared.letter.LetterBody.{LetterBody}
use Rattle.ballot.specs.declared.letter.LetterBody.TheVariants.{P1a, P1b, P2a, P2b, Propose, Decision, Ask}
use Rattle.node.specs.Holding.{Holding}
use Rattle.node.specs.Nodes.{NodeState}
use Rattle.node.specs.Receiving.{IsFit, ShowsReceived}
use Rattle.cluster.specs.Envelopes.{Envelope, IsLegible, IsReadAs}
use Rattle.cluster.specs.Hosts.{HostState, with_node_state}
use Rattle.host.specs.declared.receipt.Receipt.{Receipt}
use Rattle.host.specs.declared.receipt.Receipt.TheVariants as receipts

-- a letter asks for a promise or an acceptance
abbrev pub AsksForVote : {C : Type 0} → LetterBody C → Type 0
AsksForVote (P1a b) = ⊤
AsksForVote (P1b b report) = ⊥
AsksForVote (P2a p) = ⊤
AsksForVote (P2b o s b) = ⊥
AsksForVote (Propose s c) = ⊥
AsksForVote (Decision s c) = ⊥
AsksForVote (Ask s) = ⊥

-- an envelope to node n asks for a vote, and speaks of no slot below the base
pub record AwaitsVote {C : Type 0} (n base : ℕ) (p : Envelope C) : Type 0 where
  pub to : p.letter.to ≡ n
  pub asks : AsksForVote p.letter.body
  pub whole : rest_of_body base p.letter.body ≡ Some p.letter.body

-- a host stays as it was, and sends nothing
abbrev pub Stays : {Op O : Type 0} → HostState Op O → HostState Op O
    → List (Letter (Command Op)) → List (Letter (Command Op)) → Type 0
Stays s t before now = (t ≡ s) × (now ≡ before)

-- The host of node n reads an envelope, and receives what is left of it: s becomes t, and what it sends stands after the
-- letters before.
abbrev pub Takes : {Op O : Type 0} → ℕ → HostState Op O → Envelope (Command Op) → HostState Op O
    → List (Letter (Command Op)) → List (Letter (Command Op)) → Type 0
Takes {Op} n s p t before now =
    (left : LetterBody (Command Op)) × (new : NodeState (Command Op)) × (sent : List (Letter (Command Op)))
    × IsReadAs p n s.base left
    × ShowsReceived p.letter.«from» s.holding.state left new [] sent
    × (t ≡ with_node_state s new) × (now ≡ before ++ sent)

-- a node receives a body from m: h becomes z, and what it sends stands behind the letters before
abbrev pub TakesBody : {Op O : Type 0} → ℕ → Holding Op O → LetterBody (Command Op) → Holding Op O
    → List (Letter (Command Op)) → List (Letter (Command Op)) → Type 0
TakesBody {Op} m h body z before now =
    (sent : List (Letter (Command Op)))
    × ShowsReceived m h.state body z.state [] sent
    × (z.object ≡ h.object) × (now ≡ before ++ sent)

-- what comes of an envelope at the host of node n: s becomes t
abbrev pub Comes : {Op O : Type 0} → Receipt → ℕ → HostState Op O → Envelope (Command Op) → HostState Op O
    → List (Letter (Command Op)) → List (Letter (Command Op)) → Type 0
Comes receipts.Astray n s p t before now = (p.letter.to ≢ n) × Stays s t before now
Comes receipts.Illegible n s p t before now = (IsLegible s.base p.label p.letter.body → ⊥) × Stays s t before now
Comes receipts.Forgotten n s p t before now = (rest_of_body s.base p.letter.body ≡ None) × Stays s t before now
Comes {Op} receipts.Unfit n s p t before now =
    (left : LetterBody (Command Op)) × IsReadAs p n s.base left
    × (IsFit s.holding.state left → ⊥) × Stays s t before now
Comes receipts.Aside n s p t before now = AwaitsVote n s.base p × Stays s t before now
Comes receipts.Received n s p t before now = Takes n s p t before now

-- the envelope that is put aside
abbrev pub put_aside : {C : Type 0} → Receipt → Envelope C → List (Envelope C)
put_aside receipts.Astray p = []
put_aside receipts.Illegible p = []
put_aside receipts.Forgotten p = []
put_aside receipts.Unfit p = []
put_aside receipts.Aside p = p ∷ []
put_aside receipts.Received p = []

-- a host may receive an envelope to it
pub record MayReceive {Op O : Type 0} (s : HostState Op O) (p : Envelope (Command Op)) : Type 0 where
  pub legible : IsLegible s.base p.label p.letter.body
  pub some : is_none (rest_of_body s.base p.letter.body) ≡ false
  pub fit : IsFit s.holding.state p.letter.body

-- the host of node n leaves an envelope out
abbrev pub IsLeftOut : {Op O : Type 0} → ℕ → HostState Op O → Envelope (Command Op) → Type 0
IsLeftOut n s p = (p.letter.to ≢ n) ⊎ (MayReceive s p → ⊥)
