-- A host: one node with its object, in a process of its own. It has forgotten the slots below a base of its own (Paxos
-- Made Moderately Complex, 4.2).
use Rattle.std.specs.Prelude.{◌≡◌, ◌≤◌, ℕ, true, List}
use Rattle.object.specs.Objects.{Rules}
use Rattle.object.specs.declared.command.Command.{Command}
use Rattle.ballot.specs.Members.{is_member}
use Rattle.node.specs.Holding.{Holding, HeldTurn, new_object}
use Rattle.node.specs.Nodes.{NodeState, members_of, number_of, new_node}
use Rattle.node.specs.Rests.{rest_of_node}
use Rattle.node.specs.declared.deed.Deed.{Deed}
use Rattle.agreement.specs.Nodes.{Cluster, node}
use Rattle.forgetting.specs.Holding.{ShowsHeld, acted_held}

-- a node and its object, of which the slots from the base on are kept
pub record HostState (Op O : Type 0) : Type 0 where
  pub base : ℕ
  pub holding : Holding Op O

-- node n of these members, before anything happened
abbrev pub new_host : {O Op Reply : Type 0} → Rules O Op Reply → List ℕ → ℕ → HostState Op O
new_host rules members n = record {
  base = 0;
  holding = record { state = new_node members n; object = new_object rules };
}

-- It shows the rest of node n, and its object has obeyed all that this node performed; what is below the base was
-- performed.
pub record ShowsHost {O Op Reply : Type 0} (rules : Rules O Op Reply) (s : HostState Op O) (n : ℕ)
    (k : Cluster (Command Op)) : Type 0 where
  pub member : is_member k.members n ≡ true
  pub held : ShowsHeld rules s.base s.holding (node k n)
  pub past : s.base ≤ (node k n).replica.slot_out

-- what it becomes, sends and answers as it does this by itself
abbrev pub host_turn : {O Op Reply : Type 0} → Rules O Op Reply → HostState Op O → Deed Op → HeldTurn Op O Reply
host_turn rules s d = acted_held rules (members_of s.holding.state) (number_of s.holding.state) s.holding d

-- the host with another node and object
abbrev pub with_holding : {Op O : Type 0} → HostState Op O → Holding Op O → HostState Op O
with_holding s h = record { base = s.base; holding = h }

-- the host with another node, and the object as it is
abbrev pub with_node_state : {Op O : Type 0} → HostState Op O → NodeState (Command Op) → HostState Op O
with_node_state s x = record { base = s.base; holding = record { state = x; object = s.holding.object } }

-- the host that has forgotten the slots below a higher base
abbrev pub forgotten_host : {Op O : Type 0} → ℕ → HostState Op O → HostState Op O
forgotten_host base s = record {
  base = base;
  holding = record { state = rest_of_node base s.holding.state; object = s.holding.object };
}
