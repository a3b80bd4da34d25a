-- What of a job tells on which shelves it stands.
use Rattle.std.specs.Prelude.{ℕ, []}
use Rattle.job_store.specs.declared.job.Job.{Job}
use Rattle.job_store.specs.declared.spot.Spot.{Spot}
use Rattle.job_store.specs.declared.state.State.{State}
use Rattle.job_store.specs.Histories.{new_history}

-- the spot of a job
abbrev pub spot_of : Job → Spot
spot_of job = record { tube = job.tube; pri = job.pri; state = job.state }

-- the spot of a job, where it has this priority and this state
abbrev pub changed_spot : ℕ → State → Job → Spot
changed_spot pri state job = record { tube = job.tube; pri = pri; state = state }

-- a job at a spot, of no time to run, no body, and a history that says nothing
abbrev pub at_spot : Spot → Job
at_spot spot =
    record { tube = spot.tube; pri = spot.pri; ttr = 0; body = []; state = spot.state; history = new_history 0 0 }
