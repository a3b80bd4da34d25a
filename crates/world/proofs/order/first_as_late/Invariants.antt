use Rattle.std.proofs.Common.{◌≡◌, drop, map}
use Rattle.world.specs.Placed.{first_as_late}
use Rattle.world.proofs.order.first_as_late.Given as goal

abbrev pub invariant-loop-item : goal.invariant-loop-item
invariant-loop-item g l = first_as_late l.fn.key (map g.T.Keyed.key_of l.items) ≡ first_as_late l.fn.key (map g.T.Keyed.key_of (drop l.item-index l.items))
