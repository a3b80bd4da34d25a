-- Nodes.
use Rattle.std.specs.Prelude.{◌≡◌, true, ℕ, zero, suc, ◌+◌, List, slice_index_or, slice_set}
use Rattle.ballot.specs.Members.{is_member}
use Rattle.acceptor.specs.Acceptors.{Acceptances, new_acceptor}
use Rattle.leader.specs.Leaders.{Leading, new_leader}
use Rattle.slot_log.specs.Books.{SlotBook, new_book}

-- A node: its acceptor with every pvalue that it ever accepted, how often it restarted, its leader and its replica. A
-- replica has no object here: its answers are read off a replay.
pub record NodeState (C : Type 0) : Type 0 where
  pub acceptor : Acceptances C
  pub boot : ℕ
  pub leader : Leading C
  pub replica : SlotBook C

-- the members that it knows
abbrev pub members_of : {C : Type 0} → NodeState C → List ℕ
members_of x = x.leader.members

-- its own number among them
abbrev pub number_of : {C : Type 0} → NodeState C → ℕ
number_of x = x.leader.ballot.node

-- x is the node of this number among these members
pub record IsSeated {C : Type 0} (members : List ℕ) (n : ℕ) (x : NodeState C) : Type 0 where
  pub member : is_member members n ≡ true
  pub speaks : members_of x ≡ members
  pub node : number_of x ≡ n

-- node n of these members before anything happened
abbrev pub new_node : {C : Type 0} → List ℕ → ℕ → NodeState C
new_node members n = record { acceptor = new_acceptor; boot = 0; leader = new_leader members n 0; replica = new_book }

-- Restart: its acceptor stays, its boot grows by one, leader and replica are opened anew
abbrev pub restarted : {C : Type 0} → List ℕ → ℕ → NodeState C → NodeState C
restarted members n x = record x {
  boot = x.boot + 1;
  leader = new_leader members n (x.boot + 1);
  replica = new_book;
}

-- node n of these nodes; a new one where there is none
abbrev pub node_in : {C : Type 0} → List ℕ → List (NodeState C) → ℕ → NodeState C
node_in members nodes zero = new_node members 0
node_in members nodes (suc i) = slice_index_or nodes i (new_node members (suc i))

-- these nodes, with another one in the place of node n
abbrev pub put : {C : Type 0} → List (NodeState C) → ℕ → NodeState C → List (NodeState C)
put nodes zero x = nodes
put nodes (suc i) x = slice_set nodes i x
