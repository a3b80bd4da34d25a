-- What a host does, among the hosts of a cluster.
use Rattle.std.specs.Prelude.{◌≡◌, ◌≢◌, ◌≤◌, ℕ, true, List, ◌++◌}
use Rattle.object.specs.ListLaws.{Each}
use Rattle.object.specs.Lists.{In}
use Rattle.object.specs.Objects.{Rules}
use Rattle.object.specs.OnceOnly.{Filtered}
use Rattle.object.specs.declared.command.Command.{Command}
use Rattle.ballot.specs.Members.{is_member}
use Rattle.ballot.specs.declared.letter.Letter.{Letter}
use Rattle.cluster.specs.Clusters.{Hosts, labelled}
use Rattle.cluster.specs.Envelopes.{Envelope}
use Rattle.cluster.specs.Steps.{AreHosts, ClusterStep}
use Rattle.host.specs.Counting.{most_host_events}
use Rattle.host.specs.Views.{HostView}

-- the host is that of node n among these, what it put aside is under way, and it counts all events that were there
pub record IsHostAt {Op O Reply : Type 0} (h : HostView Op O) (n : ℕ) (k : Hosts Op O Reply) : Type 0 where
  pub member : is_member k.members n ≡ true
  pub number : h.number ≡ n
  pub shown : k.host n ≡ h.shown
  pub aside : Each (λ p. In p k.envelopes) h.aside
  pub taken : k.taken n ≤ h.taken

-- each member's host counts its events, and these are no more than one host may have
abbrev pub CountEvents : {Op O Reply : Type 0} → Hosts Op O Reply → Type 0
CountEvents {Op} {O} k =
    (n : ℕ) → is_member k.members n ≡ true
    → (h : HostView Op O) × IsHostAt h n k × (h.taken ≤ most_host_events)

-- of the hosts none but that of node n has changed, nor what others have stored; and no envelope, no snapshot and no
-- command that was handed in was taken out
pub record ChangesOnly {Op O Reply : Type 0} (n : ℕ) (k j : Hosts Op O Reply) : Type 0 where
  pub members : j.members ≡ k.members
  pub others : (m : ℕ) → m ≢ n → j.host m ≡ k.host m
  pub stored : (m : ℕ) → m ≢ n → j.stored m ≡ k.stored m
  pub taken : (m : ℕ) → m ≢ n → j.taken m ≡ k.taken m
  pub handed : (m : ℕ) (c : Command Op) → In c (k.handed m) → In c (j.handed m)
  pub envelopes : (p : Envelope (Command Op)) → In p k.envelopes → In p j.envelopes
  pub snapshots : (slot : ℕ) (object : Filtered O) → In (slot, object) k.snapshots → In (slot, object) j.snapshots

-- by one step of the cluster the host of node n becomes z
pub record StepsTo {O Op Reply : Type 0} (rules : Rules O Op Reply) (owner : ℕ → ℕ) (n : ℕ) (z : HostView Op O)
    (k j : Hosts Op O Reply) : Type 0 where
  pub step : ClusterStep rules owner k j
  pub changes : ChangesOnly n k j
  pub is : IsHostAt z n j

-- what it sends under this base stands behind the letters before, and is among the envelopes
pub record SendsUnder {C : Type 0} (base : ℕ) (before now : List (Letter C)) (envelopes : List (Envelope C))
    : Type 0 where
  pub sent : List (Letter C)
  pub behind : now ≡ before ++ sent
  pub among : (p : Envelope C) → In p (labelled base sent) → In p envelopes

-- By steps, of which clients see nothing, the host of node n becomes z, and sends letters under this base. Nothing is
-- handed in meanwhile, nor is a snapshot handed on.
pub record BecomesBySteps {O Op Reply : Type 0} (rules : Rules O Op Reply) (owner : ℕ → ℕ) (members : List ℕ)
    (base n : ℕ) (z : HostView Op O) (before now : List (Letter (Command Op))) (k : Hosts Op O Reply) : Type 0 where
  pub hosts : Hosts Op O Reply
  pub are : AreHosts rules owner members hosts
  pub changes : ChangesOnly n k hosts
  pub is : IsHostAt z n hosts
  pub under : z.shown.base ≡ base
  pub sends : SendsUnder base before now hosts.envelopes
  pub happenings : hosts.happenings ≡ k.happenings
  pub handed : hosts.handed ≡ k.handed
  pub snapshots : hosts.snapshots ≡ k.snapshots
