use Rattle.std.proofs.Common.{map}
use Rattle.std.specs.List.Sorted.{IsStrictlySortedBy}
use Rattle.job_store.specs.ShelfStates.{numbered_place}
use Rattle.job_store.proofs.shelving.Places.{shelf_cmp, AreAllOn}
use Rattle.job_store.proofs.shelf.Shelf.first.Given as goal

abbrev pub invariant-loop-place : goal.invariant-loop-place
invariant-loop-place g l =
    AreAllOn l.label (map (numbered_place g.N.ShelfNumber.value) l.place-iterator) l.jobs.entries ×
    IsStrictlySortedBy shelf_cmp (map (numbered_place g.N.ShelfNumber.value) l.place-iterator)
