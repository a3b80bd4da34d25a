-- What is due to a session that waits.
use Rattle.std.specs.Prelude.{◌≡◌, ℕ, ◌+◌, ◌<◌, true, false}
use Rattle.object.specs.Lists.{In}
use Rattle.job_store.specs.declared.job.Job.{Job}
use Rattle.job_store.specs.LookUps.{is_among}
use Rattle.job_store.specs.States.{is_ready, is_held, due_of}
use Rattle.session_store.specs.declared.session.SessionState.{SessionState}
use Rattle.session_store.specs.Sessions.{is_waiting, has_timed_out}
use Rattle.pause_store.specs.Pauses.{is_paused}
use Rattle.bean_queue.specs.Queue.{QueueState}

-- nothing is due to the session: no job is ready in a tube that it watches and that is not paused, none that it has is
-- due within a second, and its wait isn't over
pub record IsOwedNothing (s : QueueState) (w : ℕ × SessionState) : Type 0 where
  pub no_job : (j : ℕ × Job) → In j s.jobs → is_ready j.1.state ≡ true → is_paused j.1.tube s.pauses ≡ false → is_among j.1.tube w.1.watched ≡ true → ⊥
  pub no_deadline : (j : ℕ × Job) → In j s.jobs → is_held w.0 j.1.state ≡ true → s.now + 1 < due_of j.1.state
  pub no_time_out : has_timed_out s.now w.1.wait ≡ false

-- nothing is due to a session that waits
abbrev pub OwesNothing : QueueState → Type 0
OwesNothing s = (w : ℕ × SessionState) → In w s.sessions → is_waiting w.1 ≡ true → IsOwedNothing s w
