-- A host comes back with what it stored, and with a snapshot.
use Rattle.std.specs.Prelude.{◌≡◌, ℕ, ◌+◌, List}
use Rattle.object.specs.Objects.{Rules}
use Rattle.object.specs.OnceOnly.{Filtered}
use Rattle.node.specs.ComingBack.{node_back}
use Rattle.agreement.specs.Steps.{Step}
use Rattle.agreement.specs.Worlds.{World}
use Rattle.agreement.specs.declared.event.Event.TheVariants.{Restart}
use Rattle.cluster.specs.CatchingUp.{CatchesUp}
use Rattle.cluster.specs.Hosts.{HostState}
use Rattle.cluster.specs.Storing.{Stored, IsStored, booted}

-- the host with its acceptor as stored, the next boot, a new leader, and a replica that goes on at the snapshot's slot
abbrev pub restarted_host : {Op O : Type 0} → List ℕ → ℕ → Stored Op → ℕ → Filtered O → HostState Op O
restarted_host members n d slot object = record {
  base = slot;
  holding = node_back members n d.acceptor (d.boot + 1) slot object;
}

-- the node restarts, its next boot is stored, and it catches up with the snapshot
pub record ComesBack {O Op Reply : Type 0} (rules : Rules O Op Reply) (n : ℕ) (d : Stored Op) (slot : ℕ)
    (object : Filtered O) (w : World Op Reply) : Type 0 where
  pub opened : World Op Reply
  pub step : Step rules w (Restart n) opened
  pub happenings : opened.happenings ≡ w.happenings
  pub stored : IsStored (booted d) n opened.cluster
  pub catches_up : CatchesUp rules (restarted_host w.cluster.members n d slot object) n opened
