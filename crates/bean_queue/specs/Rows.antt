-- What each operation does before waiting sessions are served: the state after, and the operation's own reply.
use Rattle.std.specs.Prelude.{ℕ, zero, suc, ◌+◌, max, Bool, true, false, not, ◌||◌, List, [], ◌∷◌, filter}
use Rattle.std.specs.Prelude.{Option, None, Some, ◌==◌, length, is_some, if◌then◌else◌}
use Rattle.std.specs.List.{list_any}
use Rattle.object.specs.declared.command.Key.{Key}
use Rattle.job_store.specs.declared.job.Job.{Job}
use Rattle.job_store.specs.declared.state.State.{State}
use Rattle.job_store.specs.Entries.{value_at, with_value, altered, without}
use Rattle.job_store.specs.Histories.{new_history}
use Rattle.job_store.specs.States.{is_held, is_delayed, is_buried, is_reserved, with_state, reserved_job, released_job, buried_job, kicked_job}
use Rattle.job_store.specs.LookUps.{is_among, delayed_in, buried_in, first_ready, first_delayed, first_buried}
use Rattle.session_store.specs.declared.session.SessionState.{SessionState}
use Rattle.session_store.specs.Sessions.{with_wait}
use Rattle.session_store.specs.WatchLists.{joined, left_out, is_alone}
use Rattle.pause_store.specs.Pauses.{is_paused, paused_for}
use Rattle.tube_store.specs.declared.tube_counts.TubeCounts.{TubeCounts}
use Rattle.tube_store.specs.declared.tube_mark.TubeMark.{TubeMark}
use Rattle.tube_store.specs.TubeCounts.{marked_tube}
use Rattle.bean_words.specs.declared.op.Op.{Op}
use Rattle.bean_words.specs.declared.reply.Reply.{Reply}
use Rattle.bean_queue.specs.Reports.{job_report, tube_figures, tube_report, queue_report}
use Rattle.bean_queue.specs.Tubes.{all_tubes}
use Rattle.bean_queue.specs.Queue.{QueueState, pauses_of, with_jobs, used_by, watched_by}

-- the state after an operation, and its own reply, if it has one by now
pub record Row : Type 0 where
  pub state : QueueState
  pub reply : Option Reply

-- this state, and this reply
abbrev pub replies : QueueState → Reply → Row
replies s reply = record { state = s; reply = Some reply }

-- the state, with session x changed
abbrev pub with_session : QueueState → ℕ → (SessionState → SessionState) → QueueState
with_session s x f = record s { sessions = altered x f s.sessions }

-- Ready, or Delayed where there is a delay (protocol.txt of beanstalkd, "put": delay)
abbrev pub ready_after : ℕ → ℕ → State
ready_after now delay = if delay == 0 then State.Ready else State.Delayed (now + delay)

-- a new job of session x: in the tube that it uses, with a second to run at least (protocol.txt of beanstalkd,
-- "put": ttr)
abbrev pub put_job : QueueState → ℕ → ℕ → ℕ → ℕ → List ℕ → Job
put_job s x pri delay ttr body =
    record {
      tube = used_by s x;
      pri = pri;
      ttr = max ttr 1;
      body = body;
      state = ready_after s.now delay;
      history = new_history s.now delay;
    }

-- the job stands under the next id (protocol.txt of beanstalkd, "put")
unfoldable pub put_row : QueueState → ℕ → ℕ → ℕ → ℕ → List ℕ → Row
put_row s x pri delay ttr body =
    replies
    (record s {
      next_id = s.next_id + 1;
      jobs = with_value s.next_id (put_job s x pri delay ttr body) s.jobs;
      tubes = marked_tube TubeMark.Put (used_by s x) s.tubes;
    })
    (Reply.Inserted s.next_id)

-- list-tubes names the tube, or it is paused
abbrev pub is_kept : QueueState → List ℕ → Bool
is_kept s tube = is_among tube (all_tubes s) || is_paused tube s.pauses

-- those of these tubes that aren't kept have no counts any more
unfoldable pub left_counts : List (List ℕ) → QueueState → List (List ℕ × TubeCounts)
left_counts tubes s = filter (λ e. not (is_among e.0 tubes) || is_kept s e.0) s.tubes

-- the state, without them
abbrev pub settled : List (List ℕ) → QueueState → QueueState
settled tubes s = record s { tubes = left_counts tubes s }

-- session x uses the tube, and leaves the one that it used (protocol.txt of beanstalkd, "use")
unfoldable pub use_row : QueueState → ℕ → List ℕ → Row
use_row s x tube =
    replies (settled (used_by s x ∷ []) (with_session s x (λ c. record c { used = tube }))) (Reply.Using tube)

-- session x watches other tubes, and is told how many
abbrev pub with_watched : QueueState → ℕ → (List (List ℕ) → List (List ℕ)) → Row
with_watched s x f =
    replies (with_session s x (λ c. record c { watched = f c.watched })) (Reply.Watching (length (f (watched_by s x))))

-- the tube is watched too (protocol.txt of beanstalkd, "watch")
unfoldable pub watch_row : QueueState → ℕ → List ℕ → Row
watch_row s x tube = with_watched s x (joined tube)

-- the tube is watched no more, unless it is the only one (protocol.txt of beanstalkd, "ignore")
unfoldable pub ignore_row : QueueState → ℕ → List ℕ → Row
ignore_row s x tube =
    if is_alone tube (watched_by s x)
    then replies s Reply.NotIgnored
    else
    replies
    (settled (tube ∷ []) (with_session s x (λ c. record c { watched = left_out tube c.watched })))
    (Reply.Watching (length (left_out tube (watched_by s x))))

-- the second in which a wait of so many seconds is over, where it ends at all
abbrev pub time_out : ℕ → Option ℕ → Option ℕ
time_out now None = None
time_out now (Some seconds) = Some (now + seconds)

-- from now on session x waits, by its command of this number
abbrev pub waiting : QueueState → ℕ → ℕ → Option ℕ → QueueState
waiting s x number seconds =
    record s {
      next_rank = s.next_rank + 1;
      sessions =
          altered
          x
          (with_wait (Some (record { number = number; rank = s.next_rank; time_out = time_out s.now seconds })))
          s.sessions;
    }

-- session x waits under the next rank (protocol.txt of beanstalkd, "reserve")
unfoldable pub reserve_row : QueueState → ℕ → ℕ → Option ℕ → Row
reserve_row s x number seconds = record { state = waiting s x number seconds; reply = None }

-- nobody but session x has the job
abbrev pub may_delete : ℕ → State → Bool
may_delete x State.Ready = true
may_delete x (State.Delayed due) = true
may_delete x (State.Reserved y due) = x == y
may_delete x (State.Buried rank) = true

-- there is a job, and its state passes
abbrev pub is_job_that : (State → Bool) → Option Job → Bool
is_job_that test None = false
is_job_that test (Some job) = test job.state

-- the job at an id goes
abbrev pub deleted : QueueState → ℕ → Job → QueueState
deleted s id job =
    settled (job.tube ∷ []) (record s { jobs = without id s.jobs; tubes = marked_tube TubeMark.Deleted job.tube s.tubes })

-- the job that there may be goes, if nobody but session x has it
abbrev pub delete_found : QueueState → ℕ → ℕ → Option Job → Row
delete_found s x id None = replies s Reply.NotFound
delete_found s x id (Some job) =
    if may_delete x job.state then replies (deleted s id job) Reply.Deleted else replies s Reply.NotFound

-- a job that nobody else has goes (protocol.txt of beanstalkd, "delete")
unfoldable pub delete_row : QueueState → ℕ → ℕ → Row
delete_row s x id = delete_found s x id (value_at id s.jobs)

-- the job at an id is changed, if session x has it
abbrev pub held_row : QueueState → ℕ → ℕ → (Job → Job) → Reply → Row
held_row s x id f reply =
    if is_job_that (is_held x) (value_at id s.jobs)
    then replies (with_jobs s (altered id f s.jobs)) reply
    else replies s Reply.NotFound

-- session x gives a job back (protocol.txt of beanstalkd, "release")
unfoldable pub release_row : QueueState → ℕ → ℕ → ℕ → ℕ → Row
release_row s x id pri delay = held_row s x id (released_job pri delay (ready_after s.now delay)) Reply.Released

-- the time to run of a job of session x begins anew (protocol.txt of beanstalkd, "touch")
unfoldable pub touch_row : QueueState → ℕ → ℕ → Row
touch_row s x id = held_row s x id (λ job. with_state (State.Reserved x (s.now + job.ttr)) job) Reply.Touched

-- session x lays a job aside, under the next rank (protocol.txt of beanstalkd, "bury")
unfoldable pub bury_row : QueueState → ℕ → ℕ → ℕ → Row
bury_row s x id pri =
    if is_job_that (is_held x) (value_at id s.jobs)
    then
    replies
    (record s {
      next_rank = s.next_rank + 1;
      jobs = altered id (buried_job pri s.next_rank) s.jobs;
    })
    Reply.Buried
    else replies s Reply.NotFound

-- jobs, and how many of them were kicked
pub record Kicked : Type 0 where
  pub jobs : List (ℕ × Job)
  pub count : ℕ

-- one more was kicked
abbrev pub and_one : Kicked → Kicked
and_one k = record { jobs = k.jobs; count = k.count + 1 }

-- the job that is picked is kicked, and then more are; none where none is picked
abbrev pub kicked_option : (List (ℕ × Job) → Kicked) → List (ℕ × Job) → Option (ℕ × Job) → Kicked
kicked_option more jobs None = record { jobs = jobs; count = 0 }
kicked_option more jobs (Some e) = and_one (more (altered e.0 kicked_job jobs))

-- up to n of the jobs that `pick` picks in turn are ready
unfoldable pub kicked : (List (ℕ × Job) → Option (ℕ × Job)) → ℕ → List (ℕ × Job) → Kicked
kicked pick zero jobs = record { jobs = jobs; count = 0 }
kicked pick (suc n) jobs = let more = kicked pick n in kicked_option more jobs (pick jobs)

-- these jobs, and their number as the reply
abbrev pub kick_by : QueueState → Kicked → Row
kick_by s k = replies (with_jobs s k.jobs) (Reply.KickedCount k.count)

-- up to `bound` buried jobs of the tube are ready, by rank; where it has none, delayed ones, by the second that is due
abbrev pub kick_in : QueueState → List ℕ → ℕ → Row
kick_in s tube bound =
    kick_by
    s
    (kicked (if is_some (first_buried tube s.jobs) then first_buried tube else first_delayed tube) bound s.jobs)

-- so it is in the used tube (protocol.txt of beanstalkd, "kick")
unfoldable pub kick_row : QueueState → ℕ → ℕ → Row
kick_row s x bound = kick_in s (used_by s x) bound

-- the jobs that a kick of the tube may make ready: its buried ones, or its delayed ones where none is buried
abbrev pub kickable : List ℕ → List (ℕ × Job) → List (ℕ × Job)
kickable tube jobs =
    if list_any (buried_in tube) jobs then filter (buried_in tube) jobs else filter (delayed_in tube) jobs

-- the job is buried or delayed
abbrev pub is_idle : State → Bool
is_idle state = is_buried state || is_delayed state

-- a job that is buried or delayed is ready (protocol.txt of beanstalkd, "kick-job")
unfoldable pub kick_job_row : QueueState → ℕ → Row
kick_job_row s id =
    if is_job_that is_idle (value_at id s.jobs)
    then replies (with_jobs s (altered id kicked_job s.jobs)) Reply.Kicked
    else replies s Reply.NotFound

-- nobody has the job
abbrev pub is_unreserved : State → Bool
is_unreserved state = not (is_reserved state)

-- the job that there may be becomes session x's until its time to run is over, if nobody has it
abbrev pub reserve_found : QueueState → ℕ → ℕ → Option Job → Row
reserve_found s x id None = replies s Reply.NotFound
reserve_found s x id (Some job) =
    if is_unreserved job.state
    then replies (with_jobs s (altered id (reserved_job x (s.now + job.ttr)) s.jobs)) (Reply.Reserved id job.body)
    else replies s Reply.NotFound

-- session x gets a job that nobody has, whatever its tube (protocol.txt of beanstalkd, "reserve-job")
unfoldable pub reserve_job_row : QueueState → ℕ → ℕ → Row
reserve_job_row s x id = reserve_found s x id (value_at id s.jobs)

-- the job that was looked for
abbrev pub shown : Option (ℕ × Job) → Reply
shown None = Reply.NotFound
shown (Some e) = Reply.Found e.0 e.1.body

-- the job at an id, with the id
abbrev pub at_id : ℕ → List (ℕ × Job) → Option (ℕ × Job)
at_id id jobs = elim (value_at id jobs) [ None ↦ None | Some job ↦ Some (id, job) ]

-- a job is looked for (protocol.txt of beanstalkd, "peek")
unfoldable pub peek_row : QueueState → Option (ℕ × Job) → Row
peek_row s found = replies s (shown found)

-- a tube that list-tubes names is paused for so many seconds, or no longer where they are none (protocol.txt of
-- beanstalkd, "pause-tube")
unfoldable pub pause_row : QueueState → List ℕ → ℕ → Row
pause_row s tube seconds =
    if is_among tube (all_tubes s)
    then
    replies
    (record s {
      pauses = (paused_for tube seconds (pauses_of s)).pauses;
      tubes = marked_tube (TubeMark.Paused seconds) tube s.tubes;
    })
    Reply.Paused
    else replies s Reply.NotFound

-- the report of the job that there may be
abbrev pub reported : ℕ → ℕ → Option Job → Reply
reported now id None = Reply.NotFound
reported now id (Some job) = Reply.Data (job_report now id job)

-- what has happened to a job is told (protocol.txt of beanstalkd, "stats-job")
unfoldable pub stats_job_row : QueueState → ℕ → Row
stats_job_row s id = replies s (reported s.now id (value_at id s.jobs))

-- what was done with a tube that list-tubes names, and how many jobs and sessions it has, is told (protocol.txt of
-- beanstalkd, "stats-tube")
unfoldable pub stats_tube_row : QueueState → List ℕ → Row
stats_tube_row s tube =
    replies s (if is_among tube (all_tubes s) then Reply.Data (tube_report tube (tube_figures s tube)) else Reply.NotFound)

-- how many jobs and sessions there are, and how often each operation was carried out, is told (protocol.txt of
-- beanstalkd, "stats")
unfoldable pub stats_row : QueueState → Row
stats_row s = replies s (Reply.Data (queue_report s))

-- what an operation under this key does
unfoldable pub row : Op → Key → QueueState → Row
row (Op.Put pri delay ttr body) key s = put_row s key.session pri delay ttr body
row (Op.Use tube) key s = use_row s key.session tube
row (Op.Watch tube) key s = watch_row s key.session tube
row (Op.Ignore tube) key s = ignore_row s key.session tube
row (Op.Reserve seconds) key s = reserve_row s key.session key.number seconds
row (Op.Delete id) key s = delete_row s key.session id
row (Op.Touch id) key s = touch_row s key.session id
row (Op.Release id pri delay) key s = release_row s key.session id pri delay
row (Op.Bury id pri) key s = bury_row s key.session id pri
row (Op.Kick bound) key s = kick_row s key.session bound
row (Op.KickJob id) key s = kick_job_row s id
row (Op.ReserveJob id) key s = reserve_job_row s key.session id
row (Op.Peek id) key s = peek_row s (at_id id s.jobs)
row Op.PeekReady key s = peek_row s (first_ready (used_by s key.session) s.jobs)
row Op.PeekDelayed key s = peek_row s (first_delayed (used_by s key.session) s.jobs)
row Op.PeekBuried key s = peek_row s (first_buried (used_by s key.session) s.jobs)
row Op.ListTubes key s = replies s (Reply.Tubes (all_tubes s))
row Op.ListTubeUsed key s = replies s (Reply.Using (used_by s key.session))
row Op.ListTubesWatched key s = replies s (Reply.Tubes (watched_by s key.session))
row (Op.Pause tube seconds) key s = pause_row s tube seconds
row (Op.StatsJob id) key s = stats_job_row s id
row (Op.StatsTube tube) key s = stats_tube_row s tube
row Op.Stats key s = stats_row s
