-- A host takes over a snapshot, in place of the decisions before its slot.
use Rattle.std.specs.Prelude.{◌≡◌, ◌≢◌, ℕ, ◌+◌, ◌*◌, ◌<◌, Some, List, slice_get, true}
use Rattle.std.specs.FinMap.{get}
use Rattle.object.specs.ListLaws.{Each}
use Rattle.object.specs.Lists.{In, IsBeginning}
use Rattle.object.specs.Objects.{Rules}
use Rattle.object.specs.OnceOnly.{Filtered, is_later}
use Rattle.object.specs.declared.command.Answer.{Answer}
use Rattle.object.specs.declared.command.Command.{Command}
use Rattle.ballot.specs.declared.letter.Letter.{Letter}
use Rattle.ballot.specs.declared.letter.LetterBody.TheVariants.{Decision}
use Rattle.slot_log.specs.Books.{SlotBook}
use Rattle.node.specs.ComingBack.{node_from}
use Rattle.agreement.specs.Chosen.{IsOrder}
use Rattle.agreement.specs.Nodes.{Cluster, node}
use Rattle.agreement.specs.Runs.{Leads, IsWorld}
use Rattle.agreement.specs.Worlds.{World}
use Rattle.agreement.specs.declared.event.Event.{Event}
use Rattle.agreement.specs.declared.event.Event.TheVariants.{Submit, Deliver, Wake, Nudge, Propose, Perform, Restart}
use Rattle.cluster.specs.Hosts.{HostState, ShowsHost}
use Rattle.cluster.specs.Storing.{Stored, IsStored}

-- the event is that node n is told a decision, or that it performs
abbrev pub IsCatchingUp : {Op : Type 0} → ℕ → Cluster (Command Op) → Event Op → Type 0
IsCatchingUp n k (Submit m c) = ⊥
IsCatchingUp {Op} n k (Deliver i) =
    (l : Letter (Command Op)) × (s : ℕ) × (c : Command Op)
    × (slice_get k.letters i ≡ Some l) × (l.to ≡ n) × (l.body ≡ Decision s c)
IsCatchingUp n k (Wake m) = ⊥
IsCatchingUp n k (Nudge m) = ⊥
IsCatchingUp n k (Propose m) = ⊥
IsCatchingUp n k (Perform m) = m ≡ n
IsCatchingUp n k (Restart m) = ⊥

-- the host with this object, which goes on at this slot, and keeps the slots from there on
abbrev pub caught_up : {Op O : Type 0} → ℕ → Filtered O → HostState Op O → HostState Op O
caught_up slot object s = record {
  base = slot;
  holding = node_from slot object s.holding;
}

-- the object has obeyed nothing of what the replica has proposed for slots before this one
abbrev pub HasProposedInVain : {Op O : Type 0} → ℕ → Filtered O → SlotBook (Command Op) → Type 0
HasProposedInVain {Op} slot object book =
    (s : ℕ) (c : Command Op) → s < slot → get book.proposals s ≡ Some c → is_later c.key object.latest ≡ true

-- Events lead to a world that the host shows then: node n is told decisions and performs them, twice as many events as
-- slots, and nothing else happens. No answer is new, what other nodes have and have stored is as it was, and so is the
-- order.
pub record CatchesUp {O Op Reply : Type 0} (rules : Rules O Op Reply) (s : HostState Op O) (n : ℕ)
    (w : World Op Reply) : Type 0 where
  pub world : World Op Reply
  pub events : List (Event Op)
  pub leads : Leads rules w events world
  pub each : Each (IsCatchingUp n w.cluster) events
  pub is : IsWorld rules world
  pub shows : ShowsHost rules s n world.cluster
  pub members : world.cluster.members ≡ w.cluster.members
  pub others : (m : ℕ) → m ≢ n → node world.cluster m ≡ node w.cluster m
  pub letters : world.cluster.letters ≡ w.cluster.letters
  pub taken : world.taken + 2 * (node w.cluster n).replica.slot_out ≡ w.taken + 2 * s.base
  pub reach : world.reach ≡ w.reach
  pub stored : (d : Stored Op) (m : ℕ) → IsStored d m w.cluster → IsStored d m world.cluster
  pub submitted : world.happenings.submitted ≡ w.happenings.submitted
  pub answers : IsBeginning w.happenings.answers world.happenings.answers
  pub told_once : (a : Answer Reply) → In a world.happenings.answers → In a w.happenings.answers
  pub order : (cs : List (Command Op)) → IsOrder w.cluster cs → IsOrder world.cluster cs
