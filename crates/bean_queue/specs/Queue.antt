-- The state of the queue.
use Rattle.std.specs.Prelude.{◌≡◌, ℕ, Bool, ◌&&◌, List, [], nat_le}
use Rattle.std.specs.List.{list_any}
use Rattle.std.specs.Map.{keys_of}
use Rattle.job_store.specs.declared.job.Job.{Job}
use Rattle.job_store.specs.Entries.{Rising}
use Rattle.job_store.specs.States.{is_held, due_of}
use Rattle.session_store.specs.declared.session.SessionState.{SessionState}
use Rattle.session_store.specs.Sessions.{session_of}
use Rattle.session_store.specs.Drafts.{Draft}
use Rattle.pause_store.specs.Pauses.{PauseState}
use Rattle.tube_store.specs.declared.tube_counts.TubeCounts.{TubeCounts}
use Rattle.bean_queue.specs.declared.counters.Counters.{Counters}
use Rattle.bean_queue.specs.declared.counts.Counts.{Counts}
use Rattle.bean_queue.specs.Counting.{nothing_counted}

-- the jobs by id and the sessions by number, each a list of entries whose keys rise; the pauses of tubes and what was
-- done with tubes, by name; and what is counted
pub record QueueState : Type 0 where
  pub now : ℕ
  pub next_id : ℕ
  pub next_rank : ℕ
  pub jobs : List (ℕ × Job)
  pub sessions : List (ℕ × SessionState)
  pub pauses : List (List ℕ × ℕ)
  pub tubes : List (List ℕ × TubeCounts)
  pub counts : Counts

-- the state of these parts
abbrev pub state_of : Counters → List (ℕ × Job) → List (ℕ × SessionState) → List (List ℕ × ℕ) → List (List ℕ × TubeCounts) → QueueState
state_of counters jobs sessions pauses tubes = record {
  now = counters.now;
  next_id = counters.next_id;
  next_rank = counters.next_rank;
  jobs = jobs;
  sessions = sessions;
  pauses = pauses;
  tubes = tubes;
  counts = counters.counts;
}

-- the pauses are of the second that the counters have, now and before
pub record AgreesOnTime (counters kept : Counters) (pauses : Draft PauseState) : Type 0 where
  pub now : pauses.now.second ≡ counters.now
  pub before : pauses.before.second ≡ kept.now

-- a new queue
abbrev pub fresh : QueueState
fresh = record { now = 0; next_id = 1; next_rank = 1; jobs = []; sessions = []; pauses = []; tubes = []; counts = nothing_counted }

-- its pauses, at its second
abbrev pub pauses_of : QueueState → PauseState
pauses_of s = record { second = s.now; pauses = s.pauses }

-- the tubes that are paused
abbrev pub paused_tubes : QueueState → List (List ℕ)
paused_tubes s = keys_of s.pauses

-- the ids rise, from 1 on, and the next one is above them
abbrev pub HasRisingIds : QueueState → Type 0
HasRisingIds s = Rising 1 s.next_id s.jobs

-- the state, with these jobs
abbrev pub with_jobs : QueueState → List (ℕ × Job) → QueueState
with_jobs s jobs = record s { jobs = jobs }

-- the state, with these sessions
abbrev pub with_sessions : QueueState → List (ℕ × SessionState) → QueueState
with_sessions s sessions = record s { sessions = sessions }

-- the tube that session x uses
abbrev pub used_by : QueueState → ℕ → List ℕ
used_by s x = (session_of x s.sessions).used

-- the tubes that session x watches
abbrev pub watched_by : QueueState → ℕ → List (List ℕ)
watched_by s x = (session_of x s.sessions).watched

-- session x has a job that is due by this second
abbrev pub holds_by : ℕ → ℕ → List (ℕ × Job) → Bool
holds_by x second jobs = list_any (λ e. is_held x e.1.state && nat_le (due_of e.1.state) second) jobs
