use Rattle.std.proofs.Common.{cond, ◌≡◌}
use Rattle.job_store.specs.LookUps.{first_buried, first_delayed}
use Rattle.bean_queue.proofs.kicks.Kicks.{IsKicking}
use Rattle.bean_queue.proofs.logic.kick.kick_idle.Given as goal

abbrev pub invariant-loop-count : goal.invariant-loop-count
invariant-loop-count g l =
    IsKicking (cond l.buried (first_buried l.tube) (first_delayed l.tube)) l.bound l.count l.jobs.now l.fn.jobs.now × (l.jobs.before ≡ l.fn.jobs.before)
