use Rattle.std.proofs.Common.{◌≡◌, length}
use Rattle.pause_store.specs.Pauses.{DropsOver, HasEnds}
use Rattle.pause_store.proofs.pause_draft.drop_all_over.Given as goal

abbrev pub invariant-over : goal.invariant-over
invariant-over l = record {
  dropped : DropsOver l.second l.fn.seconds.now l.seconds.now;
  kept : l.seconds.before ≡ l.seconds.now;
  ends : HasEnds l.second l.ends.keys l.seconds.now;
}

abbrev pub decreases-over : goal.decreases-over
decreases-over l = length l.ends.keys
