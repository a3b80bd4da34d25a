use Rattle.std.proofs.Common.{ℕ, suc, ◌<◌}
use Rattle.agreement.specs.Nodes.{node}
use Rattle.world.specs.Voters.{HasNoneVoted}
use Rattle.world.proofs.world.World.voted_anywhere.Given as goal

abbrev pub invariant-loop-node : goal.invariant-loop-node
invariant-loop-node g l = (j : ℕ) → j < l.node-index → HasNoneVoted l.fn.self.cluster (node l.fn.self.cluster (suc j)).acceptor.accepted l.fn.slot
