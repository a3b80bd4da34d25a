-- What a turn of Serve gives, and to whom.
use Rattle.std.specs.Prelude.{◌≡◌, ℕ, true, false, ◌&&◌, List}
use Rattle.object.specs.Lists.{In}
use Rattle.job_store.specs.declared.job.Job.{Job}
use Rattle.job_store.specs.Least.{ComesBefore, IsLeast}
use Rattle.job_store.specs.LookUps.{is_among, pri_of_job}
use Rattle.job_store.specs.States.{is_ready}
use Rattle.session_store.specs.declared.session.SessionState.{SessionState}
use Rattle.session_store.specs.Sessions.{is_waiting, wait_rank}
use Rattle.pause_store.specs.Pauses.{is_paused}
use Rattle.bean_queue.specs.Queue.{QueueState}
use Rattle.bean_queue.specs.Turns.{QueueTurn, given}

-- a session that waits watches the tube
abbrev pub IsWatched : QueueState → List ℕ → Type 0
IsWatched s tube =
    (w : ℕ × SessionState) × In w s.sessions × (is_waiting w.1 ≡ true) × (is_among tube w.1.watched ≡ true)

-- the job is ready in a tube that is not paused, and a session that waits watches it
pub record IsWanted (s : QueueState) (j : ℕ × Job) : Type 0 where
  pub there : In j s.jobs
  pub ready : is_ready j.1.state ≡ true
  pub unpaused : is_paused j.1.tube s.pauses ≡ false
  pub watched : IsWatched s j.1.tube

-- the turn gives a job that is wanted, of the least (priority, id), to the waiting session of the least rank that
-- watches its tube
pub record IsBestTurn (s : QueueState) (t : QueueTurn) : Type 0 where
  pub job : ℕ × Job
  pub session : ℕ × SessionState
  pub made : t ≡ given s job session
  pub wanted : IsWanted s job
  pub urgent : (d : ℕ × Job) → IsWanted s d → ComesBefore pri_of_job d job → ⊥
  pub first : IsLeast (λ e. is_waiting e.1 && is_among job.1.tube e.1.watched) wait_rank s.sessions session
