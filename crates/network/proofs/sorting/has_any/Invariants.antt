use Rattle.std.proofs.Common.{◌≢◌, ℕ, ◌<◌}
use Rattle.std.specs.Prelude.{slice_index_or}
use Rattle.ballot.specs.declared.letter.Letter.{Letter}
use Rattle.network.proofs.sorting.has_any.Given as goal

abbrev pub invariant-loop-place : goal.invariant-loop-place
invariant-loop-place g l = (k : ℕ) (d : Letter g.row.C.Denot) → k < l.place → (slice_index_or l.letters k d).to ≢ l.to
