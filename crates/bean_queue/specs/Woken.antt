-- The tubes in which there may be a job for a session that waits, where there was none before.
use Rattle.std.specs.Prelude.{◌≡◌, ℕ, Bool, true, not, ◌&&◌, ◌⊎◌, List, [], ◌∷◌, Option, None, Some, is_some}
use Rattle.object.specs.Lists.{In}
use Rattle.object.specs.declared.command.Key.{Key}
use Rattle.job_store.specs.declared.job.Job.{Job}
use Rattle.job_store.specs.Entries.{value_at}
use Rattle.job_store.specs.LookUps.{is_among}
use Rattle.job_store.specs.States.{is_ready}
use Rattle.session_store.specs.declared.session.SessionState.{SessionState}
use Rattle.session_store.specs.Sessions.{first_waiting}
use Rattle.bean_words.specs.declared.op.Op.{Op}
use Rattle.bean_queue.specs.Best.{IsWanted}
use Rattle.bean_queue.specs.Queue.{QueueState, used_by}

-- each job that a waiting session may have is in one of these tubes
abbrev pub Covers : List (List ℕ) → QueueState → Type 0
Covers tubes s = (j : ℕ × Job) → IsWanted s j → In j.1.tube tubes

-- the tube is not paused, and a waiting session watches it
abbrev pub has_taker : List (List ℕ) → List (ℕ × SessionState) → List ℕ → Bool
has_taker paused sessions tube =
    not (is_among tube paused) && is_some (first_waiting (λ e. is_among tube e.1.watched) sessions)

-- each job that is ready after, and was not so before, is in one of these tubes
abbrev pub AreWoken : List (List ℕ) → List (ℕ × Job) → List (ℕ × Job) → Type 0
AreWoken tubes before after = (j : ℕ × Job) → In j after → is_ready j.1.state ≡ true → In j before ⊎ In j.1.tube tubes

-- the tube of the job that there may be
abbrev pub tube_of : Option Job → List (List ℕ)
tube_of None = []
tube_of (Some job) = job.tube ∷ []

-- the tubes in which an operation may make a job ready
abbrev pub woken_by : Op → Key → QueueState → List (List ℕ)
woken_by (Op.Put pri delay ttr body) key s = used_by s key.session ∷ []
woken_by (Op.Release id pri delay) key s = tube_of (value_at id s.jobs)
woken_by (Op.Kick bound) key s = used_by s key.session ∷ []
woken_by (Op.KickJob id) key s = tube_of (value_at id s.jobs)
woken_by (Op.Pause tube seconds) key s = tube ∷ []
woken_by _ key s = []
