use Rattle.std.proofs.Common.{◌≤◌, ◌+◌, ◌^◌}
use Rattle.world.proofs.standing.Seeking.{IsSought}
use Rattle.world.proofs.world.World.first_chosen_as_late.Given as goal

abbrev pub invariant-loop-slot : goal.invariant-loop-slot
invariant-loop-slot g l = record {
  sought : IsSought l.fn.self.cluster l.fn.first l.fn.key l.slot;
  within : l.slot ≤ 2 ^ 62 + 1;
}
