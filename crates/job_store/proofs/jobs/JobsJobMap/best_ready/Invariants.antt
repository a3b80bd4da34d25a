use Rattle.std.proofs.Common.{option_map}
use Rattle.std.specs.Map.{keys_of}
use Rattle.job_store.specs.LookUps.{not_paused}
use Rattle.job_store.proofs.readiness.Readiness.{IsBestSoFar}
use Rattle.job_store.proofs.jobs.JobsJobMap.best_ready.Given as goal

abbrev pub invariant-loop-tube : goal.invariant-loop-tube
invariant-loop-tube l =
    let paused = keys_of l.paused.entries in
    IsBestSoFar (not_paused paused l.tubes.keys) (not_paused paused l.tube-iterator) l.self.jobs (option_map (λ e. (e.0, e.1.now)) l.best)
