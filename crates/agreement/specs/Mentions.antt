-- The slots and commands that a cluster mentions: accepted, proposed, gathered, asked for, decided, or told in a letter.
use Rattle.std.specs.Prelude.{◌≡◌, ℕ, ⊤, Bool, true, false, List, Some}
use Rattle.std.specs.FinMap.{get}
use Rattle.object.specs.ListLaws.{Each}
use Rattle.object.specs.Lists.{In}
use Rattle.object.specs.declared.command.Command.{Command}
use Rattle.ballot.specs.Slots.{Slots}
use Rattle.ballot.specs.declared.letter.LetterBody.{LetterBody}
use Rattle.ballot.specs.declared.letter.LetterBody.TheVariants.{P1a, P1b, P2a, P2b, Propose, Decision, Ask}
use Rattle.ballot.specs.declared.pvalue.Pvalue.{Pvalue}
use Rattle.scout_commander.specs.Commanders.{Commanding}
use Rattle.scout_commander.specs.Scouts.{Scouting}
use Rattle.leader.specs.Leaders.{Leading}
use Rattle.slot_log.specs.Books.{SlotBook}
use Rattle.slot_log.specs.Proposals.{next_proposal}
use Rattle.node.specs.Nodes.{NodeState}
use Rattle.agreement.specs.declared.event.Event.{Event}
use Rattle.agreement.specs.declared.event.Event.TheVariants.{Submit, Deliver, Wake, Nudge, Propose as ProposeNext, Perform, Restart}
use Rattle.agreement.specs.Nodes.{Cluster, node}
use Rattle.agreement.specs.Worlds.{World}

module _ {C : Type 0} (P : ℕ → C → Type 0) where
  -- it holds of each slot with its command
  abbrev pub EachSlot : Slots C → Type 0
  EachSlot m = (s : ℕ) (c : C) → get m s ≡ Some c → P s c

  -- and of each pvalue's
  abbrev pub EachPvalue : List (Pvalue C) → Type 0
  EachPvalue ps = (p : Pvalue C) → In p ps → P p.slot p.value

  -- it holds of what a letter tells
  abbrev pub MentionsBody : LetterBody C → Type 0
  MentionsBody (P1a b) = ⊤
  MentionsBody (P1b b report) = EachPvalue report
  MentionsBody (P2a p) = P p.slot p.value
  MentionsBody (P2b o s by) = ⊤
  MentionsBody (Propose s c) = P s c
  MentionsBody (Decision s c) = P s c
  MentionsBody (Ask s) = ⊤

  -- of what a leader proposes, of what its scout gathered, and of each commander's command in its slot
  pub record MentionsLeader (l : Leading C) : Type 0 where
    pub proposals : EachSlot l.proposals
    pub gathered : (s : Scouting C) → l.scout ≡ Some s → EachPvalue s.gathered
    pub commanders : (s : ℕ) (c : Commanding C) → get l.commanders s ≡ Some c → P s c.pvalue.value

  -- of what a replica proposed, and of what it knows to be decided
  pub record MentionsBook (book : SlotBook C) : Type 0 where
    pub proposals : EachSlot book.proposals
    pub decisions : EachSlot book.decisions

  pub record MentionsNode (x : NodeState C) : Type 0 where
    pub accepted : EachPvalue x.acceptor.accepted
    pub leader : MentionsLeader x.leader
    pub replica : MentionsBook x.replica

  -- it holds of each slot with its command that the cluster mentions
  pub record Mentions (k : Cluster C) : Type 0 where
    pub nodes : (n : ℕ) → MentionsNode (node k n)
    pub letters : Each (λ l. MentionsBody l.body) k.letters

-- the event has no replica propose
abbrev pub is_calm : {Op : Type 0} → Event Op → Bool
is_calm (Submit n c) = true
is_calm (Deliver i) = true
is_calm (Wake n) = true
is_calm (Nudge n) = true
is_calm (ProposeNext n) = false
is_calm (Perform n) = true
is_calm (Restart n) = true

-- if it has one propose, it holds of the slot and command that are proposed
abbrev pub ProposesOnly : {Op Reply : Type 0} → (ℕ → Command Op → Type 0) → World Op Reply → Event Op → Type 0
ProposesOnly P w (Submit n c) = ⊤
ProposesOnly P w (Deliver i) = ⊤
ProposesOnly P w (Wake n) = ⊤
ProposesOnly P w (Nudge n) = ⊤
ProposesOnly {Op} P w (ProposeNext n) = (s : ℕ) (c : Command Op) → next_proposal (node w.cluster n).replica ≡ Some (s, c) → P s c
ProposesOnly P w (Perform n) = ⊤
ProposesOnly P w (Restart n) = ⊤
