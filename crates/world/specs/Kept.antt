-- How a world keeps its nodes, and what an event adds to what it keeps.
use Rattle.std.specs.Prelude.{◌≡◌, ℕ, nat_lt, Bool, true, false, List, map, Option, None, Some, if◌then◌else◌}
use Rattle.object.specs.declared.command.Command.{Command}
use Rattle.object.specs.declared.command.Key.{Key}
use Rattle.object.specs.declared.command.Submission.{Submission}
use Rattle.object.specs.Happenings.{is_submitted}
use Rattle.object.specs.Objects.{Rules}
use Rattle.ballot.specs.Ballots.{is_promise}
use Rattle.ballot.specs.declared.letter.LetterBody.{LetterBody}
use Rattle.ballot.specs.declared.letter.LetterBody.TheVariants.{P1a, P1b, P2a, P2b, Propose, Decision, Ask}
use Rattle.ballot.specs.declared.letter.Letter.{Letter}
use Rattle.ballot.specs.declared.pvalue.Pvalue.{Pvalue}
use Rattle.acceptor.specs.Acceptors.{Acceptances}
use Rattle.node.specs.Nodes.{NodeState}
use Rattle.node.specs.Receiving.{Receives}
use Rattle.node.specs.declared.deed.Deed.{Deed}
use Rattle.node.specs.declared.deed.Deed.TheVariants as deeds
use Rattle.node.specs.declared.deed.Outcome.{Outcome}
use Rattle.node.specs.declared.deed.Outcome.TheVariants.{Idle, Done, Performed}
use Rattle.agreement.specs.Nodes.{Cluster, node, turned}
use Rattle.agreement.specs.Worlds.{World}
use Rattle.agreement.specs.Runs.{IsWorld}
use Rattle.agreement.specs.Chosen.{IsChosenFrom}
use Rattle.agreement.specs.Reached.{IsReached}
use Rattle.world.specs.Placed.{first_as_late}

-- the node, if its acceptor had accepted all of these
abbrev pub with_accepted : {C : Type 0} → NodeState C → List (Pvalue C) → NodeState C
with_accepted x all = record x { acceptor = record { promised = x.acceptor.promised; accepted = all } }

-- what an acceptor accepts of a letter with this body
abbrev pub accepts_of : {C : Type 0} → Acceptances C → LetterBody C → Option (Pvalue C)
accepts_of a (P1a b) = None
accepts_of a (P1b b report) = None
accepts_of a (P2a p) = if is_promise a.promised p.ballot then Some p else None
accepts_of a (P2b o s by) = None
accepts_of a (Propose s c) = None
accepts_of a (Decision s c) = None
accepts_of a (Ask s) = None

-- the letter was received, by the node that it is to
abbrev pub Delivered : {C : Type 0} → Cluster C → Letter C → Cluster C → Type 0
Delivered {C} k l z = (x : NodeState C) × (out : List (Letter C)) × Receives k.members l.«from» l.to (node k l.to) l.body x out × (z ≡ turned k l.to x out)

-- these are the keys of the commands of the slots from 1 to the reach
abbrev pub HasNoted : {Op Reply : Type 0} → World Op Reply → List Key → Type 0
HasNoted {Op} w keys = (cs : List (Command Op)) × IsReached w cs × (keys ≡ map (λ c. c.key) cs)

-- of the keys whose commands are chosen in the slots from s on, this is the first of the key's session with no lower number
abbrev pub IsFirstAsLate : {Op : Type 0} → Cluster (Command Op) → ℕ → Key → Option Key → Type 0
IsFirstAsLate {Op} k s key own = (chosen : List (Command Op)) × IsChosenFrom k s chosen × (own ≡ first_as_late key (map (λ c. c.key) chosen))

-- the world, with these keys beside it
pub record IsNoted {O Op Reply : Type 0} (rules : Rules O Op Reply) (w : World Op Reply) (keys : List Key) : Type 0 where
  pub world : IsWorld rules w
  pub noted : HasNoted w keys

-- the command as a submission after so many answers, unless its key was submitted
abbrev pub new_submission : {Op : Type 0} → Command Op → List (Submission Op) → ℕ → Option (Submission Op)
new_submission c submitted after = if is_submitted c.key submitted then None else Some (record { command = c; after = after })

-- the submission that a deed brings
abbrev pub submission_by : {Op : Type 0} → Deed Op → List (Submission Op) → ℕ → Option (Submission Op)
submission_by (deeds.Request c) submitted after = new_submission c submitted after
submission_by deeds.Wake submitted after = None
submission_by deeds.Nudge submitted after = None
submission_by deeds.Propose submitted after = None
submission_by deeds.Perform submitted after = None
submission_by deeds.Restart submitted after = None

-- the key that is noted then, or none: that of a slot past the reach
abbrev pub key_past : ℕ → Outcome → Option Key
key_past reach Idle = None
key_past reach Done = None
key_past reach (Performed p) = if nat_lt reach p.slot then Some p.key else None

-- a command was performed
abbrev pub is_performance : Outcome → Bool
is_performance Idle = false
is_performance Done = false
is_performance (Performed p) = true
