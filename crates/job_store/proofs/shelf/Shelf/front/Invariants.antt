use Rattle.std.proofs.Common.{map}
use Rattle.std.specs.List.Sorted.{IsStrictlySortedBy}
use Rattle.job_store.specs.ShelfStates.{numbered_place}
use Rattle.job_store.proofs.shelving.Places.{shelf_cmp, AreAllFrom}
use Rattle.job_store.proofs.shelf.Shelf.front.Given as goal

abbrev pub invariant-loop-place : goal.invariant-loop-place
invariant-loop-place g l =
    AreAllFrom l.label l.fn.self l.jobs.entries (map (numbered_place g.N.ShelfNumber.value) l.place-iterator) ×
    IsStrictlySortedBy shelf_cmp (map (numbered_place g.N.ShelfNumber.value) l.place-iterator)
