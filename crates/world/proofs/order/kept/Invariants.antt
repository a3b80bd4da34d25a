use Rattle.std.proofs.Common.{◌≡◌, take}
use Rattle.object.specs.Replays.{kept}
use Rattle.world.proofs.order.kept.Given as goal

abbrev pub invariant-loop-index : goal.invariant-loop-index
invariant-loop-index g l = l.order.items ≡ kept (take l.index l.commands)
