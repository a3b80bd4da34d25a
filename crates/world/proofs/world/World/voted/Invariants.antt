use Rattle.std.proofs.Common.{take}
use Rattle.world.specs.Voters.{HasNoneVoted}
use Rattle.world.proofs.world.World.voted.Given as goal

abbrev pub invariant-loop-pvalue : goal.invariant-loop-pvalue
invariant-loop-pvalue g l = HasNoneVoted l.fn.self.cluster (take l.pvalue-index l.accepted) l.fn.slot
