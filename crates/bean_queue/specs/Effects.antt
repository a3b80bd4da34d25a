-- What each command does.
use Rattle.std.specs.Prelude.{ℕ, Bool, true, false, ◌&&◌, ◌+◌, ◌^◌, List, [], ◌∷◌, ◌++◌, filter, length, Option, None, Some, ◌==◌, nat_lt, if◌then◌else◌}
use Rattle.object.specs.Objects.{Rules}
use Rattle.object.specs.declared.command.Act.{Act}
use Rattle.object.specs.declared.command.Answer.{Answer}
use Rattle.object.specs.declared.command.Command.{Command}
use Rattle.object.specs.declared.command.Key.{Key}
use Rattle.job_store.specs.declared.history.History.{History}
use Rattle.job_store.specs.declared.job.Job.{Job}
use Rattle.job_store.specs.declared.state.State.{State}
use Rattle.job_store.specs.Entries.{without, altered, each_value}
use Rattle.job_store.specs.States.{is_due, is_held, is_reserved, with_state, over_history, over_job}
use Rattle.session_store.specs.declared.session.SessionState.{SessionState}
use Rattle.session_store.specs.declared.session.Role.{Role}
use Rattle.session_store.specs.Sessions.{session_of, known, with_wait_ended, with_role, is_waiting}
use Rattle.pause_store.specs.Pauses.{left_at, tubes_over}
use Rattle.bean_words.specs.declared.op.Op.{Op}
use Rattle.bean_queue.specs.declared.ready_again.Returning.{Returning}
use Rattle.bean_words.specs.declared.reply.Reply.{Reply}
use Rattle.bean_queue.specs.Queue.{QueueState, fresh, with_sessions, holds_by}
use Rattle.bean_queue.specs.Counting.{with_op_counted, and_timeouts}
use Rattle.bean_queue.specs.Rows.{Row, row, settled}
use Rattle.bean_queue.specs.Turns.{QueueOutcome, stop, serve, all_turns, deadline_turn, timeout_turn}

-- one outcome, and then what comes of its state
abbrev pub then_do : QueueOutcome → (QueueState → QueueOutcome) → QueueOutcome
then_do o f = let p = f o.state in record { state = p.state; answers = o.answers ++ p.answers }

-- the answer to the command itself, if it has a reply by now
abbrev pub own : Key → Option Reply → List (Answer Reply)
own key None = []
own key (Some reply) = record { to = key; reply = reply } ∷ []

-- the state after the command's own part, and its own answer
abbrev pub own_outcome : Key → Row → QueueOutcome
own_outcome key r = record { state = r.state; answers = own key r.reply }

-- what its session has done, once it asks for the operation: it has put a job, or asked for one
abbrev pub role_after : Op → Role → Role
role_after (Op.Put pri delay ttr body) role = record role { has_put = true }
role_after (Op.Reserve seconds) role = record role { has_reserved = true }
role_after (Op.ReserveJob id) role = record role { has_reserved = true }
role_after _ role = role

-- the session, once it asks for the operation
abbrev pub with_ask_noted : Op → SessionState → SessionState
with_ask_noted op session = with_role (role_after op session.role) session

-- session x is there, and a wait of its own has ended without an answer; and what it asks for is counted
abbrev pub called : Op → ℕ → QueueState → QueueState
called op x s = record s { sessions = altered x (with_ask_noted op) (known x s.sessions); counts = with_op_counted op s.counts }

-- the command is answered, and its session waits no longer
abbrev pub ends_wait : QueueState → Key → Reply → QueueOutcome
ends_wait s key reply = own_outcome key (record { state = with_sessions s (with_wait_ended key.session s.sessions); reply = Some reply })

-- the seconds are none
abbrev pub is_zero : Option ℕ → Bool
is_zero None = false
is_zero (Some seconds) = seconds == 0

-- a reserve that got no job is told of a job of its session that is due within a second, or that it may not wait
-- (protocol.txt of beanstalkd, "reserve": DEADLINE_SOON, and "reserve-with-timeout")
unfoldable pub turned_away : Op → Key → QueueState → QueueOutcome
turned_away (Op.Reserve seconds) key s =
    if is_waiting (session_of key.session s.sessions)
    then
    (if holds_by key.session (s.now + 1) s.jobs
    then ends_wait s key Reply.DeadlineSoon
    else (if is_zero seconds then ends_wait s key Reply.TimedOut else stop s))
    else stop s
turned_away _ key s = stop s

-- no number is left for the operation: no id for a put, or no rank for a reserve or a bury
abbrev pub has_no_number : Op → QueueState → Bool
has_no_number (Op.Put pri delay ttr body) s = s.next_id == 2 ^ 63
has_no_number (Op.Reserve seconds) s = s.next_rank == 2 ^ 63
has_no_number (Op.Bury id pri) s = s.next_rank == 2 ^ 63
has_no_number _ s = false

-- an operation is carried out for its session, which is there from now on: its own answer, then those of waiting
-- sessions
unfoldable pub carried_out : Op → Key → QueueState → QueueOutcome
carried_out op key s =
    then_do (then_do (own_outcome key (row op key (called op key.session s))) serve) (turned_away op key)

-- an operation is carried out; where no number is left for it, an older wait of its session ends, and nothing else
-- happens
unfoldable pub do_effect : Op → Key → QueueState → QueueOutcome
do_effect op key s =
    if has_no_number op s then ends_wait s key Reply.InternalError else carried_out op key s

-- the job is changed, if its state is one of these
abbrev pub change_if : (State → Bool) → (Job → Job) → Job → Job
change_if which f job = if which job.state then f job else job

-- session x waits no longer, and the jobs that it has are ready again, which isn't counted
abbrev pub released : ℕ → QueueState → QueueState
released x s = record s { jobs = each_value (change_if (is_held x) (with_state State.Ready)) s.jobs; sessions = with_wait_ended x s.sessions }

-- the tubes that session x uses and watches
abbrev pub tubes_of : ℕ → List (ℕ × SessionState) → List (List ℕ)
tubes_of x sessions = let c = session_of x sessions in c.used ∷ c.watched

-- session x is gone, and leaves its tubes
abbrev pub forgotten : ℕ → QueueState → QueueState
forgotten x s = settled (tubes_of x s.sessions) (with_sessions s (without x s.sessions))

-- the end of session x: others may get its jobs
unfoldable pub close_effect : ℕ → QueueState → QueueOutcome
close_effect x s = let o = serve (released x s) in record { state = forgotten x o.state; answers = o.answers }

-- how many jobs' time to run is over by this second
abbrev pub times_over : ℕ → List (ℕ × Job) → ℕ
times_over second jobs = length (filter (λ e. is_due second e.1.state && is_reserved e.1.state) jobs)

-- a job in this state is one of those that are to be ready again
abbrev pub is_returning : Returning → State → Bool
is_returning (Returning.Due second) = is_due second
is_returning (Returning.Held x) = is_held x

-- the history of a job that is one of those, and was in this state
abbrev pub returned_history : Returning → State → History → History
returned_history (Returning.Due second) state h = over_history state h
returned_history (Returning.Held x) state h = h

-- the time to run of one of those that was in this state is over
abbrev pub has_run_out : Returning → State → Bool
has_run_out (Returning.Due second) state = is_reserved state
has_run_out (Returning.Held x) state = false

-- of how many of those it is
abbrev pub run_out : Returning → List (ℕ × Job) → ℕ
run_out which jobs = length (filter (λ e. is_returning which e.1.state && has_run_out which e.1.state) jobs)

-- the job as one of those: it is ready
abbrev pub returned_job : Returning → Job → Job
returned_job which job =
    record job { state = State.Ready; history = returned_history which job.state job.history }

-- it is this second: jobs whose delay or time to run is over by it are ready (protocol.txt of beanstalkd, "put": delay
-- and ttr), and pauses that are over by it are gone
abbrev pub second_begun : ℕ → QueueState → QueueState
second_begun second s = record s {
  now = second;
  jobs = each_value (change_if (is_due second) over_job) s.jobs;
  pauses = left_at second s.pauses;
  counts = and_timeouts (times_over second s.jobs) s.counts;
}

-- after an outcome these tubes are left
abbrev pub then_settled : List (List ℕ) → QueueOutcome → QueueOutcome
then_settled tubes o = record { state = settled tubes o.state; answers = o.answers }

-- it is this second, and waiting sessions are served and told
abbrev pub second_passed : ℕ → QueueState → QueueOutcome
second_passed second s = then_do (then_do (serve (second_begun second s)) (all_turns deadline_turn)) (all_turns timeout_turn)

-- a second above now comes, and a lesser one does nothing
unfoldable pub tick_effect : ℕ → QueueState → QueueOutcome
tick_effect second s =
    if nat_lt s.now second then then_settled (tubes_over second s.pauses) (second_passed second s) else stop s

-- what an act under this key does
unfoldable pub act_effect : Act Op → Key → QueueState → QueueOutcome
act_effect (Act.Do op) key s = do_effect op key s
act_effect Act.Close key s = close_effect key.session s
act_effect Act.Tick key s = tick_effect key.number s

-- what a command does
unfoldable pub effect : Command Op → QueueState → QueueOutcome
effect c s = act_effect c.act c.key s

-- a queue as an object, where this says which operations are one
abbrev pub queue_rules : (Op → Op → Bool) → Rules QueueState Op Reply
queue_rules same = record {
  fresh = fresh;
  after = λ s c. (effect c s).state;
  answers = λ s c. (effect c s).answers;
  same = same;
}

-- the operation makes no job ready and lets nobody wait, so nobody is served after it
abbrev pub is_quiet : Op → Bool
is_quiet (Op.Put pri delay ttr body) = false
is_quiet (Op.Use tube) = true
is_quiet (Op.Watch tube) = true
is_quiet (Op.Ignore tube) = true
is_quiet (Op.Reserve seconds) = false
is_quiet (Op.Delete id) = true
is_quiet (Op.Touch id) = true
is_quiet (Op.Release id pri delay) = false
is_quiet (Op.Bury id pri) = true
is_quiet (Op.Kick bound) = false
is_quiet (Op.KickJob id) = false
is_quiet (Op.ReserveJob id) = true
is_quiet (Op.Peek id) = true
is_quiet Op.PeekReady = true
is_quiet Op.PeekDelayed = true
is_quiet Op.PeekBuried = true
is_quiet Op.ListTubes = true
is_quiet Op.ListTubeUsed = true
is_quiet Op.ListTubesWatched = true
is_quiet (Op.Pause tube seconds) = false
is_quiet (Op.StatsJob id) = true
is_quiet (Op.StatsTube tube) = true
is_quiet Op.Stats = true

-- the operation lists all tubes, or counts them
abbrev pub lists_tubes : Op → Bool
lists_tubes Op.ListTubes = true
lists_tubes Op.Stats = true
lists_tubes _ = false

-- the operation only reports: beside that it is counted, and that its session is there, nothing changes
abbrev pub only_reports : Op → Bool
only_reports (Op.Peek id) = true
only_reports Op.PeekReady = true
only_reports Op.PeekDelayed = true
only_reports Op.PeekBuried = true
only_reports Op.ListTubes = true
only_reports Op.ListTubeUsed = true
only_reports Op.ListTubesWatched = true
only_reports (Op.StatsJob id) = true
only_reports (Op.StatsTube tube) = true
only_reports Op.Stats = true
only_reports _ = false
