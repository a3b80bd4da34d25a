-- What a reserve comes to, where its session doesn't wait and nothing was left to give: no line needs to be joined for
-- it unless it waits.
use Rattle.std.specs.Prelude.{◌≡◌, ℕ, ◌+◌, Bool, true, false, List, [], ◌∷◌, ◌++◌, Option, None, Some, if◌then◌else◌}
use Rattle.object.specs.declared.command.Answer.{Answer}
use Rattle.object.specs.declared.command.Key.{Key}
use Rattle.job_store.specs.declared.job.Job.{Job}
use Rattle.job_store.specs.Entries.{altered}
use Rattle.job_store.specs.States.{reserved_job}
use Rattle.job_store.specs.LookUps.{best_ready, not_paused}
use Rattle.bean_words.specs.declared.op.Op.{Op}
use Rattle.bean_words.specs.declared.reply.Reply.{Reply}
use Rattle.bean_queue.specs.Queue.{QueueState, watched_by, paused_tubes, holds_by}
use Rattle.bean_queue.specs.Rows.{row, waiting}
use Rattle.bean_queue.specs.Turns.{QueueOutcome, stop, serve}
use Rattle.bean_queue.specs.Effects.{then_do, own_outcome, is_zero}

-- the operation is a reserve
abbrev pub is_reserve : Op → Bool
is_reserve (Op.Reserve seconds) = true
is_reserve _ = false

-- the operation does its own part and is answered, and then waiting sessions are served
abbrev pub wake_outcome : Op → Key → QueueState → QueueOutcome
wake_outcome op key s = then_do (own_outcome key (row op key s)) serve

-- the best job for session x
abbrev pub best_for : QueueState → ℕ → Option (ℕ × Job)
best_for s x = best_ready (not_paused (paused_tubes s) (watched_by s x)) s.jobs

-- a rank is given
abbrev pub with_next_rank : QueueState → QueueState
with_next_rank s = record s { next_rank = s.next_rank + 1 }

-- session x has the job until its time to run is over, and a rank is given
abbrev pub taken : QueueState → ℕ → ℕ × Job → QueueState
taken s x j = record s {
  next_rank = s.next_rank + 1;
  jobs = altered j.0 (reserved_job x (s.now + j.1.ttr)) s.jobs;
}

-- this state, and this reply to the reserve
abbrev pub outcome_with : Key → QueueState → Reply → QueueOutcome
outcome_with key s reply = record { state = s; answers = record { to = key; reply = reply } ∷ [] }

-- what session x is told where it gets no job, if it may not wait
abbrev pub denial : QueueState → ℕ → Option ℕ → Option Reply
denial s x seconds =
    if holds_by x (s.now + 1) s.jobs
    then Some Reply.DeadlineSoon
    else (if is_zero seconds then Some Reply.TimedOut else None)

-- the session is told so, or waits
abbrev pub refused_by : Key → Option ℕ → QueueState → Option Reply → QueueOutcome
refused_by key seconds s None = stop (waiting s key.session key.number seconds)
refused_by key seconds s (Some reply) = outcome_with key (with_next_rank s) reply

-- the session gets the job that there may be
abbrev pub reserved_by : Key → Option ℕ → QueueState → Option (ℕ × Job) → QueueOutcome
reserved_by key seconds s None = refused_by key seconds s (denial s key.session seconds)
reserved_by key seconds s (Some j) = outcome_with key (taken s key.session j) (Reply.Reserved j.0 j.1.body)

-- the session gets the best job for it; where there is none, it is told that it may not wait, or waits
unfoldable pub reserve_outcome : Key → Option ℕ → QueueState → QueueOutcome
reserve_outcome key seconds s = reserved_by key seconds s (best_for s key.session)

-- of a call that gives the session the best job for it: it did, and its answer stands last, or there was none and nothing
-- changed
abbrev pub IsTaken : Key → QueueState → QueueState → List (Answer Reply) → List (Answer Reply) → Bool → Type 0
IsTaken key s t xs ys true =
    (j : ℕ × Job) ×
    (best_for s key.session ≡ Some j) ×
    (t ≡ taken s key.session j) ×
    (ys ≡ xs ++ record { to = key; reply = Reply.Reserved j.0 j.1.body } ∷ [])
IsTaken key s t xs ys false = (best_for s key.session ≡ None) × (t ≡ s) × (ys ≡ xs)
