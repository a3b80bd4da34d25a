-- What waiting sessions get, one after the other: jobs, DEADLINE_SOON, TIMED_OUT.
use Rattle.std.specs.Prelude.{◌≡◌, ℕ, zero, suc, ◌+◌, Bool, true, false, List, [], ◌∷◌, ◌++◌, Option, None, Some, filter_map, length, if◌then◌else◌}
use Rattle.object.specs.declared.command.Answer.{Answer}
use Rattle.job_store.specs.declared.job.Job.{Job}
use Rattle.job_store.specs.Entries.{altered}
use Rattle.job_store.specs.Least.{least}
use Rattle.job_store.specs.LookUps.{is_among, best_ready, pri_of_job, not_paused}
use Rattle.job_store.specs.States.{reserved_job}
use Rattle.session_store.specs.declared.session.SessionState.{SessionState}
use Rattle.session_store.specs.Sessions.{first_waiting, with_wait_ended, is_waiting, wait_number, has_timed_out}
use Rattle.bean_words.specs.declared.reply.Reply.{Reply}
use Rattle.bean_queue.specs.Queue.{QueueState, holds_by, paused_tubes}

-- the state after, and the answers in their order
pub record QueueOutcome : Type 0 where
  pub state : QueueState
  pub answers : List (Answer Reply)

-- one waiting session gets its answer, and waits no more
pub record QueueTurn : Type 0 where
  pub state : QueueState
  pub answer : Answer Reply

-- no answer
abbrev pub stop : QueueState → QueueOutcome
stop s = record { state = s; answers = [] }

-- this answer, and what comes after it
abbrev pub after_turn : Answer Reply → QueueOutcome → QueueOutcome
after_turn a o = record { state = o.state; answers = a ∷ o.answers }

-- a turn and what comes next, or nothing where there is no turn
abbrev pub after_option : (QueueState → QueueOutcome) → QueueState → Option QueueTurn → QueueOutcome
after_option next s None = stop s
after_option next s (Some t) = after_turn t.answer (next t.state)

-- turns, while there is one, at most n
unfoldable pub turns : (QueueState → Option QueueTurn) → ℕ → QueueState → QueueOutcome
turns turn zero s = stop s
turns turn (suc n) s = let next = turns turn n in after_option next s (turn s)

-- turns, while there is one: each ends a wait, so no more than there are sessions
unfoldable pub all_turns : (QueueState → Option QueueTurn) → QueueState → QueueOutcome
all_turns turn s = turns turn (length s.sessions) s

-- the reply, to the command by which the session waits
abbrev pub answer_to : ℕ × SessionState → Reply → Answer Reply
answer_to e reply = record { to = record { session = e.0; number = wait_number e.1.wait }; reply = reply }

-- the best job of a session that waits, in those of its tubes that are not paused
abbrev pub wanted : List (List ℕ) → List (ℕ × Job) → ℕ × SessionState → Option (ℕ × Job)
wanted paused jobs e = if is_waiting e.1 then best_ready (not_paused paused e.1.watched) jobs else None

-- of the best jobs of all waiting sessions, that of the least (priority, id)
abbrev pub next_job : QueueState → Option (ℕ × Job)
next_job s = least (λ e. true) pri_of_job (filter_map (wanted (paused_tubes s) s.jobs) s.sessions)

-- session w gets job j until its time to run is over, and waits no longer (protocol.txt of beanstalkd, "reserve")
unfoldable pub given : QueueState → ℕ × Job → ℕ × SessionState → QueueTurn
given s j w = record {
  state = record s {
    jobs = altered j.0 (reserved_job w.0 (s.now + j.1.ttr)) s.jobs;
    sessions = with_wait_ended w.0 s.sessions;
  };
  answer = answer_to w (Reply.Reserved j.0 j.1.body);
}

-- the job goes to the session that there may be
abbrev pub give_to : QueueState → ℕ × Job → Option (ℕ × SessionState) → Option QueueTurn
give_to s j None = None
give_to s j (Some w) = Some (given s j w)

-- the job that there may be goes to the waiting session of least rank that watches its tube
abbrev pub give : QueueState → Option (ℕ × Job) → Option QueueTurn
give s None = None
give s (Some j) = give_to s j (first_waiting (λ e. is_among j.1.tube e.1.watched) s.sessions)

-- the next job goes to the session whose turn it is
unfoldable pub serve_turn : QueueState → Option QueueTurn
serve_turn s = give s (next_job s)

-- a session that waits is told, and waits no longer
unfoldable pub told_turn : QueueState → Reply → ℕ × SessionState → QueueTurn
told_turn s reply w = record { state = record s { sessions = with_wait_ended w.0 s.sessions }; answer = answer_to w reply }

-- the session that there may be is told
abbrev pub tell : QueueState → Reply → Option (ℕ × SessionState) → Option QueueTurn
tell s reply None = None
tell s reply (Some w) = Some (told_turn s reply w)

-- a waiting session with a job that is due within a second is told so (protocol.txt of beanstalkd, "reserve":
-- DEADLINE_SOON)
unfoldable pub deadline_turn : QueueState → Option QueueTurn
deadline_turn s = tell s Reply.DeadlineSoon (first_waiting (λ e. holds_by e.0 (s.now + 1) s.jobs) s.sessions)

-- a session whose wait is over is told so (protocol.txt of beanstalkd, "reserve-with-timeout")
unfoldable pub timeout_turn : QueueState → Option QueueTurn
timeout_turn s = tell s Reply.TimedOut (first_waiting (λ e. has_timed_out s.now e.1.wait) s.sessions)

-- waiting sessions get jobs, while there is one for them
unfoldable pub serve : QueueState → QueueOutcome
serve s = all_turns serve_turn s

-- of a call that makes one turn: it was made, and its answer stands last, or there was none and nothing changed
abbrev pub IsTurn : (QueueState → Option QueueTurn) → QueueState → QueueState → List (Answer Reply) → List (Answer Reply) → Bool → Type 0
IsTurn turn s t xs ys true = (u : QueueTurn) × (turn s ≡ Some u) × (t ≡ u.state) × (ys ≡ xs ++ u.answer ∷ [])
IsTurn turn s t xs ys false = (turn s ≡ None) × (t ≡ s) × (ys ≡ xs)
