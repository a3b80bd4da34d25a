use Rattle.std.specs.Prelude.{◌+◌, ◌-◌}
use Rattle.node_threads.proofs.staff.+run_workers.Given as goal

-- so many workers are still to be started
abbrev pub decreases-run_workers : goal.decreases-run_workers
decreases-run_workers g l = l.workers + 1 - l.desk.worker
