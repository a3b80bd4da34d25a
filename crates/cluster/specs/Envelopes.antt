-- Envelopes: letters on their way between hosts, each labelled with its sender's base (Paxos Made Moderately Complex,
-- 4.2: a P1b says below which slot its acceptor has forgotten).
use Rattle.std.specs.Prelude.{◌≡◌, ◌≤◌, ℕ, ⊤, List, Some}
use Rattle.object.specs.Lists.{In}
use Rattle.ballot.specs.Rests.{rest_of_body}
use Rattle.ballot.specs.declared.letter.Letter.{Letter}
use Rattle.ballot.specs.declared.letter.LetterBody.{LetterBody}
use Rattle.ballot.specs.declared.letter.LetterBody.TheVariants.{P1a, P1b, P2a, P2b, Propose, Decision, Ask}
use Rattle.agreement.specs.Nodes.{Cluster}

-- a letter, with the base that its sender had as it sent it
pub record Envelope (C : Type 0) : Type 0 where
  pub label : ℕ
  pub letter : Letter C

-- it is what was left, from its label on, of a letter that was sent
pub record IsEnvelopeOf {C : Type 0} (p : Envelope C) (k : Cluster C) : Type 0 where
  pub whole : Letter C
  pub sent : In whole k.letters
  pub sender : p.letter.«from» ≡ whole.«from»
  pub receiver : p.letter.to ≡ whole.to
  pub left : rest_of_body p.label whole.body ≡ Some p.letter.body

-- each of the letters, as a host of this base sends it, stands for one that was sent
abbrev pub AreEnvelopesOf : {C : Type 0} → ℕ → List (Letter C) → Cluster C → Type 0
AreEnvelopesOf {C} base letters k = (l : Letter C) → In l letters → IsEnvelopeOf (record { label = base; letter = l }) k

-- Who keeps the slots from this base on may read what stands under this label: a report leaves out what is below its
-- label, and all else speaks of one slot or of none.
abbrev pub IsLegible : {C : Type 0} → ℕ → ℕ → LetterBody C → Type 0
IsLegible base label (P1a b) = ⊤
IsLegible base label (P1b b report) = label ≤ base
IsLegible base label (P2a p) = ⊤
IsLegible base label (P2b o s b) = ⊤
IsLegible base label (Propose s c) = ⊤
IsLegible base label (Decision s c) = ⊤
IsLegible base label (Ask s) = ⊤

-- it is for node n, which may read it, and which keeps this of it from its own base on
pub record IsReadAs {C : Type 0} (p : Envelope C) (n base : ℕ) (left : LetterBody C) : Type 0 where
  pub receiver : p.letter.to ≡ n
  pub legible : IsLegible base p.label p.letter.body
  pub rest : rest_of_body base p.letter.body ≡ Some left
