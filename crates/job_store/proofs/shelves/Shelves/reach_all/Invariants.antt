use Rattle.std.proofs.Common.{length}
use Rattle.job_store.proofs.shelving.Shelving.{AreReached}
use Rattle.job_store.proofs.shelves.Shelves.reach_all.Given as goal

abbrev pub invariant-loop-id : goal.invariant-loop-id
invariant-loop-id l = AreReached l.fn.self l.self

abbrev pub decreases-loop-id : goal.decreases-loop-id
decreases-loop-id l = length l.self.went.items
