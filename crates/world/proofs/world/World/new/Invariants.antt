use Rattle.std.proofs.Common.{◌≡◌, map}
use Rattle.std.specs.List.{range_with_len}
use Rattle.node.specs.Nodes.{new_node}
use Rattle.world.proofs.world.World.new.Given as goal

abbrev pub invariant-loop-before : goal.invariant-loop-before
invariant-loop-before g l = l.nodes.items ≡ map (new_node l.fn.members) (range_with_len 1 l.before)
