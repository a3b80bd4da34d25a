use Rattle.job_store.proofs.counting.Together.{AreCountedSoFar}
use Rattle.job_store.proofs.rack.Rack.count_all.Given as goal

abbrev pub invariant-loop-shelf : goal.invariant-loop-shelf
invariant-loop-shelf g l = AreCountedSoFar l.self.shelves.entries l.count l.shelf-iterator
