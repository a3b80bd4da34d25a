use Rattle.std.proofs.Common.{drop, option_map}
use Rattle.std.specs.Map.{keys_of}
use Rattle.job_store.specs.LookUps.{not_paused}
use Rattle.job_store.proofs.readiness.Readiness.{IsBestSoFar}
use Rattle.bean_queue.proofs.waiting.best_ready.Given as goal

abbrev pub invariant-loop-tube : goal.invariant-loop-tube
invariant-loop-tube g l =
    let paused = keys_of l.pauses.now.pauses in
    IsBestSoFar (not_paused paused l.tubes) (not_paused paused (drop l.tube-index l.tubes)) (g.M.JobMap.entries l.jobs)
    (option_map (λ e. (e.0, e.1.now)) l.best)
