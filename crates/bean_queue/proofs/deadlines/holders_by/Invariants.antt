use Rattle.std.proofs.Common.{option_map}
use Rattle.bean_queue.specs.Holders.{waits_at}
use Rattle.bean_queue.proofs.due.Holders.{AreNoted, far}
use Rattle.bean_queue.proofs.deadlines.holders_by.Given as goal

abbrev pub invariant-jobs : goal.invariant-jobs
invariant-jobs g l =
    AreNoted (waits_at l.sessions.entries) (option_map (λ e. (e.0, e.1.now)) l.next) l.numbers.items l.second (g.M.JobMap.entries l.jobs)

abbrev pub decreases-jobs : goal.decreases-jobs
decreases-jobs g l = far l.second (option_map (λ e. (e.0, e.1.now)) l.next)
