use Rattle.std.proofs.Common.{◌≡◌, ◌+◌, ◌≤◌, ◌^◌, length}
use Rattle.agreement.specs.Reached.{IsRun}
use Rattle.world.proofs.world.World.all_chosen.Given as goal

abbrev pub invariant-loop-slot : goal.invariant-loop-slot
invariant-loop-slot g l = record {
  run : IsRun l.fn.self.cluster 1 l.chosen.items;
  count : 1 + length l.chosen.items ≡ l.slot;
  within : l.slot ≤ 2 ^ 62 + 1;
}
