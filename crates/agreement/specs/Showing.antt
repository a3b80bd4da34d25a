-- The nodes of a world in their places, and what they may receive.
use Rattle.std.specs.Prelude.{◌≡◌, ℕ, length}
use Rattle.ballot.specs.declared.letter.Letter.{Letter}
use Rattle.node.specs.Nodes.{IsSeated}
use Rattle.node.specs.Receiving.{IsFit}
use Rattle.agreement.specs.Nodes.{Cluster, node}

-- the cluster has a node of this number, in its place
pub record HasNode {C : Type 0} (n : ℕ) (k : Cluster C) : Type 0 where
  pub size : length k.nodes ≡ length k.members
  pub seated : IsSeated k.members n (node k n)

-- its receiver may receive the letter
pub record IsReceivable {C : Type 0} (k : Cluster C) (l : Letter C) : Type 0 where
  pub receiver : HasNode l.to k
  pub fit : IsFit (node k l.to) l.body
