-- A leader (Paxos Made Moderately Complex, 2.3 and Figure 7), and what it makes of a proposal, of a greater ballot, of
-- a Wake and of a Nudge.
use Rattle.std.specs.Prelude.{◌≡◌, ℕ, ◌≤◌, ◌^◌, Bool, true, false, not, ◌&&◌, List, [], ◌∷◌, ◌++◌, map, if◌then◌else◌, is_none, Option, None, Some}
use Rattle.std.specs.FinMap.{empty, get, contains_key, insert, entries}
use Rattle.ballot.specs.Ballots.{Numbers, is_below, next_after}
use Rattle.ballot.specs.Members.{is_member}
use Rattle.ballot.specs.declared.pvalue.Pvalue.{Pvalue}
use Rattle.ballot.specs.Letters.{all_to_all}
use Rattle.ballot.specs.declared.letter.Letter.{Letter}
use Rattle.ballot.specs.declared.letter.LetterBody.{LetterBody}
use Rattle.ballot.specs.declared.letter.LetterBody.TheVariants.{P1a, P2a}
use Rattle.scout_commander.specs.Scouts.{Scouting, IsPreempting, new_scout}
use Rattle.scout_commander.specs.Commanders.{Commanding, new_commander}
use Rattle.ballot.specs.Slots.{Slots}

-- its members and ballot, whether it is active, its proposals, perhaps a scout, and its commanders
pub record Leading (C : Type 0) : Type 0 where
  pub members : List ℕ
  pub ballot : Numbers
  pub active : Bool
  pub proposals : Slots C
  pub scout : Option (Scouting C)
  pub commanders : Slots (Commanding C)

-- a leader of the first round, with nothing proposed or asked for
abbrev pub new_leader : {C : Type 0} → List ℕ → ℕ → ℕ → Leading C
new_leader members node boot = record {
  members = members;
  ballot = record { round = 0; node = node; boot = boot };
  active = false;
  proposals = empty;
  scout = None;
  commanders = empty;
}

-- a commander of the leader's ballot at this slot
pub record IsCommanderOf {C : Type 0} (l : Leading C) (s : ℕ) (c : Commanding C) : Type 0 where
  pub members : c.members ≡ l.members
  pub ballot : c.pvalue.ballot ≡ l.ballot
  pub slot : c.pvalue.slot ≡ s

-- a scout of the leader's ballot
pub record IsScoutOf {C : Type 0} (l : Leading C) (s : Scouting C) : Type 0 where
  pub members : s.members ≡ l.members
  pub ballot : s.ballot ≡ l.ballot

-- what is true of every leader: it is a member, and its scout and commanders are of its ballot
pub record IsLeader {C : Type 0} (l : Leading C) : Type 0 where
  pub member : is_member l.members l.ballot.node ≡ true
  pub within : l.ballot.boot ≤ 2 ^ 62
  pub scout : (s : Scouting C) → l.scout ≡ Some s → IsScoutOf l s
  pub commanders : (slot : ℕ) (c : Commanding C) → get l.commanders slot ≡ Some c → IsCommanderOf l slot c

-- a leader that keeps the node and the boot of its ballot beside it
pub record IsLeaderOf {C : Type 0} (node boot : ℕ) (l : Leading C) : Type 0 where
  pub same_node : l.ballot.node ≡ node
  pub same_boot : l.ballot.boot ≡ boot
  pub leader : IsLeader l

-- what a part of a node becomes, and what it says to all members
pub record Done (S C : Type 0) : Type 0 where
  pub state : S
  pub says : List (LetterBody C)

-- nothing is said
abbrev pub silently : {S C : Type 0} → S → Done S C
silently s = record { state = s; says = [] }

-- the command in the slot, under the ballot
abbrev pub pvalue : {C : Type 0} → Numbers → ℕ → C → Pvalue C
pvalue b s c = record { ballot = b; slot = s; value = c }

-- the proposal is kept, with a commander for it
abbrev pub commands : {C : Type 0} → Leading C → ℕ → C → Done (Leading C) C
commands l s c =
    let p = pvalue l.ballot s c in
    record {
      state = record l { proposals = insert l.proposals s c; commanders = insert l.commanders s (new_commander l.members p) };
      says = P2a p ∷ [];
    }

-- a command is proposed for a slot: it is kept where there is none, and an active leader has it accepted
abbrev pub on_propose : {C : Type 0} → Leading C → ℕ → C → Done (Leading C) C
on_propose l s c =
    if contains_key l.proposals s
    then silently l
    else (if l.active then commands l s c else silently (record l { proposals = insert l.proposals s c }))

-- Preempted by b, where b is above the leader's ballot. In Paxos Made Moderately Complex a new scout starts at once,
-- and the commanders go on until each is preempted; here the new scout starts at the next Wake, and the commanders end.
abbrev pub preempted : {C : Type 0} → Leading C → Numbers → Leading C
preempted l b =
    if is_below l.ballot b
    then record l { ballot = next_after b l.ballot.node l.ballot.boot; active = false; scout = None; commanders = empty }
    else l

-- Wake: where the leader isn't active and has no scout, a scout of its ballot
abbrev pub woken : {C : Type 0} → Leading C → Done (Leading C) C
woken l =
    if not l.active && is_none l.scout
    then record { state = record l { scout = Some (new_scout l.members l.ballot) }; says = P1a l.ballot ∷ [] }
    else silently l

-- what a scout waits for, if there is one
abbrev pub scout_says : {C : Type 0} → Option (Scouting C) → List (LetterBody C)
scout_says None = []
scout_says (Some s) = P1a s.ballot ∷ []

-- Nudge: what the scout and the commanders wait for, said again
abbrev pub says_again : {C : Type 0} → Leading C → List (LetterBody C)
says_again l = scout_says l.scout ++ map (λ e. P2a e.1.pvalue) (entries l.commanders)

-- what the leader says, in letters to all members
abbrev pub letters_of : {C : Type 0} → Leading C → List (LetterBody C) → List (Letter C)
letters_of l says = all_to_all l.members l.ballot.node says

-- what the leader says goes to all members, in letters after those that are there
abbrev pub Sends : {C : Type 0} → Leading C → List (LetterBody C) → List (Letter C) → List (Letter C) → Type 0
Sends l says before after = after ≡ before ++ letters_of l says

-- the leader is preempted by this ballot of m, and no round comes after it
pub record LeavesNoBallot {C : Type 0} (l : Leading C) (m : ℕ) (ballot : Numbers) : Type 0 where
  pub preempting : IsPreempting l.members l.ballot m ballot
  pub last : 2 ^ 62 ≤ ballot.round
