-- All nodes with the letters that they sent.
use Rattle.std.specs.Prelude.{ℕ, List, [], ◌++◌, map}
use Rattle.ballot.specs.declared.letter.Letter.{Letter}
use Rattle.ballot.specs.Members.{numbers}
use Rattle.node.specs.Nodes.{NodeState, new_node, node_in, put}

-- the nodes 1, 2, .. of these members, and all letters ever sent; none of them is ever taken out
pub record Cluster (C : Type 0) : Type 0 where
  pub members : List ℕ
  pub nodes : List (NodeState C)
  pub letters : List (Letter C)

-- the members, before anything happened
abbrev pub new_cluster : {C : Type 0} → List ℕ → Cluster C
new_cluster members = record { members = members; nodes = map (new_node members) (numbers members); letters = [] }

-- node n; a new one where there is none
abbrev pub node : {C : Type 0} → Cluster C → ℕ → NodeState C
node k n = node_in k.members k.nodes n

-- node n becomes x, and sends letters
abbrev pub turned : {C : Type 0} → Cluster C → ℕ → NodeState C → List (Letter C) → Cluster C
turned k n x out = record k { nodes = put k.nodes n x; letters = k.letters ++ out }
