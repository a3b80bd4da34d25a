-- The words of a way out of a world. Node 1 leads it, as it is always a member.
use Rattle.std.specs.Prelude.{◌≡◌, ℕ, ◌+◌, ◌*◌, ◌^◌, ◌<◌, ◌≤◌, ◌==◌, ◌&&◌, ◌⊎◌, Bool, true, false, if◌then◌else◌, List, [], ◌∷◌}
use Rattle.std.specs.Prelude.{◌++◌, length, filter, slice_get, Option, None, Some, IsSome}
use Rattle.std.specs.List.{list_all}
use Rattle.std.specs.FinMap.{empty, get, contains_key, insert, len}
use Rattle.object.specs.Objects.{Rules}
use Rattle.ballot.specs.Letters.{letter}
use Rattle.ballot.specs.Members.{is_member}
use Rattle.ballot.specs.Slots.{Slots}
use Rattle.ballot.specs.declared.letter.Letter.{Letter}
use Rattle.ballot.specs.declared.letter.LetterBody.{LetterBody}
use Rattle.ballot.specs.declared.letter.LetterBody.TheVariants.{P1a, P1b, P2a, P2b, Propose, Decision, Ask}
use Rattle.ballot.specs.declared.pvalue.Pvalue.{Pvalue}
use Rattle.scout_commander.specs.Scouts.{Scouting}
use Rattle.agreement.specs.Steps.{Step}
use Rattle.agreement.specs.Runs.{Leads}
use Rattle.agreement.specs.declared.event.Event.{Event}
use Rattle.agreement.specs.declared.event.Event.TheVariants.{Submit, Deliver, Wake, Nudge, Propose as ProposeNext, Perform, Restart}
use Rattle.object.specs.Lists.{In, IsBeginning}
use Rattle.object.specs.declared.command.Command.{Command}
use Rattle.ballot.specs.Ballots.{Numbers, is_below, is_promise_below}
use Rattle.ballot.specs.Members.{numbers}
use Rattle.leader.specs.Leaders.{Leading, says_again}
use Rattle.slot_log.specs.Books.{SlotBook}
use Rattle.slot_log.specs.Proposals.{proposed_next}
use Rattle.slot_log.specs.Decisions.{learnt as with_decision}
use Rattle.slot_log.specs.Advances.{advanced}
use Rattle.world.specs.Rescues.{keeps_nodes}
use Rattle.world.specs.declared.letter_places.LetterPlaces.{LetterPlaces}
use Rattle.world.specs.Telling.{IsProposedAt}
use Rattle.agreement.specs.Nodes.{Cluster, node}
use Rattle.agreement.specs.Mentions.{Mentions}
use Rattle.agreement.specs.Worlds.{World}

-- the leader that leads the way
abbrev pub first_leader : {C : Type 0} → Cluster C → Leading C
first_leader k = (node k 1).leader

-- and the book of its replica
abbrev pub first_book : {C : Type 0} → Cluster C → SlotBook C
first_book k = (node k 1).replica

-- member m has promised a ballot above b
abbrev pub is_rival : {C : Type 0} → Cluster C → Numbers → ℕ → Bool
is_rival k b m = is_promise_below (Some b) (node k m).acceptor.promised

-- how many members have
abbrev pub rivals : {C : Type 0} → Cluster C → Numbers → ℕ
rivals k b = length (filter (is_rival k b) (numbers k.members))

-- the leader is active, and waits for nothing
pub record IsAtRest {C : Type 0} (k : Cluster C) : Type 0 where
  pub active : (first_leader k).active ≡ true
  pub done : (first_leader k).commanders ≡ empty

-- of two worlds the later one has the same members, replicas, happenings and reach, and the letters go on; and each slot
-- for which the leader had a proposal has one still
pub record IsTalk {Op Reply : Type 0} (w v : World Op Reply) : Type 0 where
  pub members : v.cluster.members ≡ w.cluster.members
  pub replicas : (n : ℕ) → (node v.cluster n).replica ≡ (node w.cluster n).replica
  pub happenings : v.happenings ≡ w.happenings
  pub reach : v.reach ≡ w.reach
  pub letters : IsBeginning w.cluster.letters v.cluster.letters
  pub covers : (s : ℕ) → contains_key (first_leader w.cluster).proposals s ≡ true → contains_key (first_leader v.cluster).proposals s ≡ true

-- the leader gave up, for a ballot that fewer acceptors are above
pub record IsBeaten {Op Reply : Type 0} (old now : World Op Reply) : Type 0 where
  pub asleep : (first_leader now.cluster).active ≡ false
  pub alone : (first_leader now.cluster).scout ≡ None
  pub nobody : (first_leader now.cluster).commanders ≡ empty
  pub above : is_below (first_leader old.cluster).ballot (first_leader now.cluster).ballot ≡ true
  pub fewer : rivals now.cluster (first_leader now.cluster).ballot < rivals old.cluster (first_leader old.cluster).ballot

-- what a round comes to
pub data IsOver {Op Reply : Type 0} (old now : World Op Reply) : Type 0 where
  beaten : IsBeaten old now → IsOver old now
  adopted : (first_leader old.cluster).active ≡ false → (first_leader now.cluster).active ≡ true
      → rivals now.cluster (first_leader now.cluster).ballot ≤ rivals old.cluster (first_leader old.cluster).ballot
      → IsOver old now
  at_rest : IsAtRest now.cluster → rivals now.cluster (first_leader now.cluster).ballot ≤ rivals old.cluster (first_leader old.cluster).ballot → IsOver old now

-- how much there is to ask for yet: more than the events that it can take until the leader is at rest
abbrev pub work : {C : Type 0} → Cluster C → ℕ
work k =
    2 ^ 41 * (2 * rivals k (first_leader k).ballot + (if (first_leader k).active then 0 else 1)) + 16 * len (first_leader k).commanders

-- how great slots may be where ways are short enough
abbrev pub most_slots : ℕ
most_slots = 2 ^ 36

-- and none is mentioned above that
abbrev pub IsSmall : {C : Type 0} → Cluster C → Type 0
IsSmall k = Mentions (λ s c. s ≤ most_slots) k

-- something is left for replica 1 to perform at this slot: a command is proposed there, or it has a request
abbrev pub HasMore : {C : Type 0} → Cluster C → ℕ → Type 0
HasMore k s = IsProposedAt k s ⊎ (0 < length (first_book k).requests)

-- node 1 sent this body to m, by the letter of this number
abbrev pub AsksAt : {Op Reply : Type 0} → World Op Reply → ℕ → LetterBody (Command Op) → ℕ → Type 0
AsksAt w j body m = slice_get w.cluster.letters j ≡ Some (letter 1 body m)

-- the letter asks a member for a promise or a vote
pub data IsQuestion {Op Reply : Type 0} (w : World Op Reply) (j : ℕ) : Type 0 where
  promise : (b : Numbers) (m : ℕ) → is_member w.cluster.members m ≡ true → AsksAt w j (P1a b) m → IsQuestion w j
  vote : (p : Pvalue (Command Op)) (m : ℕ) → is_member w.cluster.members m ≡ true → AsksAt w j (P2a p) m → IsQuestion w j

-- the letter was delivered, and then the answer to it
pub record HasAsked {O Op Reply : Type 0} (rules : Rules O Op Reply) (w : World Op Reply) (j : ℕ) (v : World Op Reply) : Type 0 where
  pub between : World Op Reply
  pub asks : Step rules w (Deliver j) between
  pub answers : Step rules between (Deliver (length w.cluster.letters)) v

-- how many questions the leader asks in a round: each that it waits for, of each member
abbrev pub questions : {C : Type 0} → Cluster C → ℕ
questions k = length k.members * length (says_again (first_leader k))

-- a leader that isn't active has a scout out
abbrev pub HasScout : {C : Type 0} → Cluster C → Type 0
HasScout {C} k = (first_leader k).active ≡ false → (s : Scouting C) × ((first_leader k).scout ≡ Some s)

-- an event by which nodes talk of ballots and votes, and of what is decided
abbrev pub is_talk : {Op : Type 0} → Event Op → Bool
is_talk (Submit n c) = false
is_talk (Deliver i) = true
is_talk (Wake n) = true
is_talk (Nudge n) = true
is_talk (ProposeNext n) = false
is_talk (Perform n) = false
is_talk (Restart n) = false

-- some events of this kind led from the one world to the other, and stand behind those before
pub record Goes {O Op Reply : Type 0} (rules : Rules O Op Reply) (kind : Event Op → Bool) (w : World Op Reply)
    (before : List (Event Op)) (v : World Op Reply) (after : List (Event Op)) : Type 0 where
  pub events : List (Event Op)
  pub led : Leads rules w events v
  pub noted : after ≡ before ++ events
  pub each : list_all kind events ≡ true

-- these are talk, and the worlds differ by talk alone
pub record HasTalked {O Op Reply : Type 0} (rules : Rules O Op Reply) (w : World Op Reply) (before : List (Event Op))
    (v : World Op Reply) (after : List (Event Op)) : Type 0 where
  pub goes : Goes rules is_talk w before v after
  pub talk : IsTalk w v

-- one event led from the one world to the other, and stands behind those before
pub record AddsEvent {O Op Reply : Type 0} (rules : Rules O Op Reply) (e : Event Op) (w : World Op Reply)
    (before : List (Event Op)) (v : World Op Reply) (after : List (Event Op)) : Type 0 where
  pub step : Step rules w e v
  pub noted : after ≡ before ++ (e ∷ [])

-- The book of replica 1 where its slot_out is about to be decided: as it was where a proposal for the slot had been sent, and
-- else with its first request proposed there.
pub data IsReady {C : Type 0} (k : Cluster C) (s : ℕ) (book : SlotBook C) : Type 0 where
  stays : IsProposedAt k s → book ≡ first_book k → IsReady k s book
  proposes : (IsProposedAt k s → ⊥) → book ≡ proposed_next (first_book k) → IsReady k s book

-- and it has learnt then what was decided
pub record HasLearnt {C : Type 0} (k : Cluster C) (s : ℕ) (book : SlotBook C) : Type 0 where
  pub before : SlotBook C
  pub command : C
  pub ready : IsReady k s before
  pub unknown : get before.decisions s ≡ None
  pub learns : book ≡ with_decision before s command

-- A test that all that the one cluster mentions passes is passed by all that the other mentions, if the first request passes it
-- wherever that is proposed at the slot.
abbrev pub MentionsAsMuch : {C : Type 0} → Cluster C → ℕ → Cluster C → Type 0
MentionsAsMuch {C} k s z =
    (test : ℕ → C → Bool) → ((c : C) (more : List C) → (first_book k).requests ≡ c ∷ more → (IsProposedAt k s → ⊥) → test s c ≡ true)
    → Mentions (λ t c. test t c ≡ true) k → Mentions (λ t c. test t c ≡ true) z

-- Events led from the one world to the other for the sake of a slot. Their number is paid for by what there is to ask for, and
-- this much more. None of them is a restart, nothing else is mentioned than the slot's request, and nothing is submitted anew.
pub record IsPassage {O Op Reply : Type 0} (rules : Rules O Op Reply) (slot cost : ℕ) (w : World Op Reply)
    (before : List (Event Op)) (v : World Op Reply) (after : List (Event Op)) : Type 0 where
  pub spent : v.taken + work v.cluster ≤ w.taken + work w.cluster + cost
  pub mentions : MentionsAsMuch w.cluster slot v.cluster
  pub submitted : v.happenings.submitted ≡ w.happenings.submitted
  pub goes : Goes rules keeps_nodes w before v after

-- and then the leader is at rest again
pub record IsWholePassage {O Op Reply : Type 0} (rules : Rules O Op Reply) (slot cost : ℕ) (w : World Op Reply)
    (before : List (Event Op)) (v : World Op Reply) (after : List (Event Op)) : Type 0 where
  pub passage : IsPassage rules slot cost w before v after
  pub at_rest : IsAtRest v.cluster

-- the letter of this number goes to node 1, and is of this kind for the slot
pub record IsToFirst {C : Type 0} (kind : ℕ → C → LetterBody C) (letters : List (Letter C)) (j s : ℕ) : Type 0 where
  pub letter : Letter C
  pub command : C
  pub at : slice_get letters j ≡ Some letter
  pub to : letter.to ≡ 1
  pub body : letter.body ≡ kind s command

-- it proposes a command for the slot to node 1
abbrev pub Proposes : {C : Type 0} → List (Letter C) → ℕ → ℕ → Type 0
Proposes letters j s = IsToFirst Propose letters j s

-- it tells node 1 what is decided there
abbrev pub Decides : {C : Type 0} → List (Letter C) → ℕ → ℕ → Type 0
Decides letters j s = IsToFirst Decision letters j s

-- the command is a request, or was proposed, or is known to be decided
pub data Holds {C : Type 0} (book : SlotBook C) (c : C) : Type 0 where
  in_requests : In c book.requests → Holds book c
  in_proposals : (s : ℕ) → get book.proposals s ≡ Some c → Holds book c
  in_decisions : (s : ℕ) → get book.decisions s ≡ Some c → Holds book c

-- replica 1 knows what is decided at the slot: it knew it, or has learnt it now
pub data HasDecided {C : Type 0} (k : Cluster C) (s : ℕ) (book : SlotBook C) : Type 0 where
  knew : (c : C) → get (first_book k).decisions s ≡ Some c → book ≡ first_book k → HasDecided k s book
  learnt : HasLearnt k s book → HasDecided k s book

-- and has performed that
pub record HasAdvanced {C : Type 0} (same : C → C → Bool) (k : Cluster C) (book : SlotBook C) : Type 0 where
  pub before : SlotBook C
  pub decided : HasDecided k (first_book k).slot_out before
  pub performed : book ≡ advanced same before

-- a body that proposes a command for the slot, and goes to node 1
abbrev pub proposes_to : {C : Type 0} → ℕ → ℕ → LetterBody C → Bool
proposes_to slot to (P1a b) = false
proposes_to slot to (P1b b report) = false
proposes_to slot to (P2a p) = false
proposes_to slot to (P2b o s by) = false
proposes_to slot to (Propose s c) = (to == 1) && (s == slot)
proposes_to slot to (Decision s c) = false
proposes_to slot to (Ask s) = false

abbrev pub is_proposal : {C : Type 0} → ℕ → Letter C → Bool
is_proposal slot l = proposes_to slot l.to l.body

-- and one that tells it what is decided there
abbrev pub decides_to : {C : Type 0} → ℕ → ℕ → LetterBody C → Bool
decides_to slot to (P1a b) = false
decides_to slot to (P1b b report) = false
decides_to slot to (P2a p) = false
decides_to slot to (P2b o s by) = false
decides_to slot to (Propose s c) = false
decides_to slot to (Decision s c) = (to == 1) && (s == slot)
decides_to slot to (Ask s) = false

abbrev pub is_decision : {C : Type 0} → ℕ → Letter C → Bool
is_decision slot l = decides_to slot l.to l.body

-- These places are of letters of this kind to node 1, and each slot that one of the first `read` letters is for has one.
pub record ArePlacesOf {C : Type 0} (kind : ℕ → C → LetterBody C) (letters : List (Letter C)) (read : ℕ) (places : Slots ℕ) : Type 0 where
  pub sound : (s j : ℕ) → get places s ≡ Some j → IsToFirst kind letters j s
  pub whole : (j s : ℕ) → j < read → IsToFirst kind letters j s → IsSome (get places s)

-- of the letters so many are read, and these are the places of those that propose to node 1 or tell it what is decided
pub record ArePlaces {C : Type 0} (letters : List (Letter C)) (read : ℕ) (places : LetterPlaces) : Type 0 where
  pub of_proposals : ArePlacesOf Propose letters read places.proposals
  pub of_decisions : ArePlacesOf Decision letters read places.decisions

-- and all of them are read
pub record AreAllRead {C : Type 0} (letters : List (Letter C)) (places : LetterPlaces) : Type 0 where
  pub all : places.read ≡ length letters
  pub found : ArePlaces letters places.read places

-- the places with this one for the slot, if there is one
abbrev pub noted_place : Slots ℕ → Option ℕ → ℕ → Slots ℕ
noted_place places None place = places
noted_place places (Some slot) place = insert places slot place
