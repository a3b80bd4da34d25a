use Rattle.std.proofs.Common.{◌≡◌, ◌≢◌, ℕ, ◌<◌}
use Rattle.std.specs.Prelude.{slice_index_or}
use Rattle.ballot.specs.declared.letter.Letter.{Letter}
use Rattle.network.proofs.sorting.drop_first.Given as goal

abbrev pub invariant-loop-place : goal.invariant-loop-place
invariant-loop-place g l = record {
  same : l.letters.items ≡ l.fn.letters.items;
  none : (k : ℕ) (d : Letter g.row.C.Denot) → k < l.place → (slice_index_or l.letters.items k d).to ≢ l.fn.to;
}
