use Rattle.std.proofs.Common.{◌≡◌, ℕ, length, false, ◌&&◌}
use Rattle.std.specs.Prelude.{slice_index_or, nat_lt}
use Rattle.agreement.specs.Voters.{voters_of}
use Rattle.world.proofs.world.World.voters.Given as goal

abbrev pub invariant-loop-before : goal.invariant-loop-before
invariant-loop-before g l = record {
  held : length l.fn.self.cluster.nodes ≡ length l.fn.self.cluster.members;
  size : length l.voters ≡ 7;
  same : (i : ℕ) → slice_index_or l.voters i false ≡ (nat_lt i l.before && slice_index_or (voters_of l.fn.self.cluster l.ballot l.slot) i false);
}
