use Rattle.std.proofs.Common.{ℕ, List, ◌⊎◌}
use Rattle.std.specs.List.Sorted.{IsStrictlySortedBy}
use Rattle.object.specs.Lists.{In}
use Rattle.pause_store.specs.Pauses.{left_at, pause_cmp, tubes_over}
use Rattle.pause_store.proofs.Over.{AreGathered}
use Rattle.pause_store.proofs.pause_draft.add_tubes_over.Given as goal

abbrev pub invariant-loop-end : goal.invariant-loop-end
invariant-loop-end l = record {
  grown : (tube : List ℕ) → In tube l.fn.tubes.keys → In tube l.tubes.keys;
  over : AreGathered l.earlier l.seconds.now l.ends.keys l.end-iterator l.tubes.keys;
  no_others : (tube : List ℕ) → In tube l.tubes.keys → In tube l.fn.tubes.keys ⊎ In tube (tubes_over l.second (left_at l.earlier l.seconds.now));
  sorted : IsStrictlySortedBy pause_cmp l.end-iterator;
}
