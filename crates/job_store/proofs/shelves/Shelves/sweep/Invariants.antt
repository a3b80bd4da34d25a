use Rattle.std.proofs.Common.{length}
use Rattle.job_store.proofs.shelving.Shelving.{AreBeingSwept}
use Rattle.job_store.proofs.shelves.Shelves.sweep.Given as goal

abbrev pub invariant-loop-id : goal.invariant-loop-id
invariant-loop-id l = AreBeingSwept l.self l.jobs.entries

abbrev pub decreases-loop-id : goal.decreases-loop-id
decreases-loop-id l = length l.self.went.items
