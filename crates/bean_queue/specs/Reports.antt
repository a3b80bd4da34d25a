-- The texts of reports: a line `---`, and a line for each name and its value (protocol.txt of beanstalkd, "stats-job": a
-- YAML file with a dictionary).
use Rattle.std.specs.Prelude.{ℕ, ◌-◌, Bool, ◌&&◌, List, ◌++◌, length, codes, decimal, bytes_eq, if◌then◌else◌}
use Rattle.job_store.specs.declared.job.Job.{Job}
use Rattle.job_store.specs.declared.state.State.{State}
use Rattle.job_store.specs.declared.tally.Tally.{Tally}
use Rattle.job_store.specs.LookUps.{is_among}
use Rattle.job_store.specs.Tallies.{tally_in, tally_all}
use Rattle.session_store.specs.declared.session.SessionState.{SessionState}
use Rattle.session_store.specs.Sessions.{is_waiting}
use Rattle.pause_store.specs.Pauses.{is_paused, pause_end}
use Rattle.tube_store.specs.TubeCounts.{counts_at}
use Rattle.bean_queue.specs.declared.counts.Counts.{Counts}
use Rattle.bean_queue.specs.declared.figures.QueueFigures.{QueueFigures}
use Rattle.bean_queue.specs.declared.figures.TubeFigures.{TubeFigures}
use Rattle.bean_queue.specs.Groups.{sessions_that}
use Rattle.bean_queue.specs.Queue.{QueueState}
use Rattle.bean_queue.specs.Tubes.{all_tubes}

-- a name and its value
unfoldable pub report_line : List ℕ → List ℕ → List ℕ
report_line name value = name ++ codes ": " ++ value ++ codes "\n"

-- a name and a number
unfoldable pub report_number : List ℕ → ℕ → List ℕ
report_number name n = report_line name (decimal n)

-- the word for a state
abbrev pub state_word : State → List ℕ
state_word State.Ready = codes "ready"
state_word (State.Delayed due) = codes "delayed"
state_word (State.Reserved x due) = codes "reserved"
state_word (State.Buried rank) = codes "buried"

-- the seconds until the delay or the time to run is over, and 0 of other jobs
abbrev pub time_left : ℕ → State → ℕ
time_left now State.Ready = 0
time_left now (State.Delayed due) = due - now
time_left now (State.Reserved x due) = due - now
time_left now (State.Buried rank) = 0

-- what has happened to a job, at this second (protocol.txt of beanstalkd, "stats-job")
unfoldable pub job_report : ℕ → ℕ → Job → List ℕ
job_report now id job =
    codes "---\n" ++
    report_number (codes "id") id ++
    report_line (codes "tube") job.tube ++
    report_line (codes "state") (state_word job.state) ++
    report_number (codes "pri") job.pri ++
    report_number (codes "age") (now - job.history.put_at) ++
    report_number (codes "delay") job.history.delay ++
    report_number (codes "ttr") job.ttr ++
    report_number (codes "time-left") (time_left now job.state) ++
    report_number (codes "file") 0 ++
    report_number (codes "reserves") job.history.reserves ++
    report_number (codes "timeouts") job.history.timeouts ++
    report_number (codes "releases") job.history.releases ++
    report_number (codes "buries") job.history.buries ++
    report_number (codes "kicks") job.history.kicks

-- how many jobs of each kind there are
unfoldable pub tally_report : Tally → List ℕ
tally_report t =
    report_number (codes "current-jobs-urgent") t.urgent ++
    report_number (codes "current-jobs-ready") t.ready ++
    report_number (codes "current-jobs-reserved") t.reserved ++
    report_number (codes "current-jobs-delayed") t.delayed ++
    report_number (codes "current-jobs-buried") t.buried

-- the session waits for a job of this tube, among others
abbrev pub waits_for : List ℕ → SessionState → Bool
waits_for tube session = is_waiting session && is_among tube session.watched

-- what is told of a tube, in numbers
abbrev pub tube_figures : QueueState → List ℕ → TubeFigures
tube_figures s tube =
    let counts = counts_at tube s.tubes in
    record {
      tally = tally_in tube s.jobs;
      puts = counts.puts;
      using = sessions_that (λ c. bytes_eq tube c.used) s.sessions;
      watching = sessions_that (λ c. is_among tube c.watched) s.sessions;
      waiting = sessions_that (waits_for tube) s.sessions;
      deletes = counts.deletes;
      pauses = counts.pauses;
      pause = if is_paused tube s.pauses then counts.pause else 0;
      pause_left = pause_end tube s.pauses - s.now;
    }

-- what was done with a tube, and how many jobs and sessions it has (protocol.txt of beanstalkd, "stats-tube")
unfoldable pub tube_report : List ℕ → TubeFigures → List ℕ
tube_report tube f =
    codes "---\n" ++
    report_line (codes "name") tube ++
    tally_report f.tally ++
    report_number (codes "total-jobs") f.puts ++
    report_number (codes "current-using") f.using ++
    report_number (codes "current-watching") f.watching ++
    report_number (codes "current-waiting") f.waiting ++
    report_number (codes "cmd-delete") f.deletes ++
    report_number (codes "cmd-pause-tube") f.pauses ++
    report_number (codes "pause") f.pause ++
    report_number (codes "pause-time-left") f.pause_left

-- how often operations on jobs were carried out
unfoldable pub job_counts_report : Counts → List ℕ
job_counts_report c =
    report_number (codes "cmd-put") c.put ++
    report_number (codes "cmd-peek") c.peek ++
    report_number (codes "cmd-peek-ready") c.peek_ready ++
    report_number (codes "cmd-peek-delayed") c.peek_delayed ++
    report_number (codes "cmd-peek-buried") c.peek_buried ++
    report_number (codes "cmd-reserve") c.reserve ++
    report_number (codes "cmd-reserve-with-timeout") c.reserve_with_timeout ++
    report_number (codes "cmd-delete") c.delete ++
    report_number (codes "cmd-release") c.release

-- how often the others were
unfoldable pub other_counts_report : Counts → List ℕ
other_counts_report c =
    report_number (codes "cmd-use") c.use_tube ++
    report_number (codes "cmd-watch") c.watch ++
    report_number (codes "cmd-ignore") c.ignore ++
    report_number (codes "cmd-bury") c.bury ++
    report_number (codes "cmd-kick") c.kick ++
    report_number (codes "cmd-touch") c.touch ++
    report_number (codes "cmd-stats") c.stats ++
    report_number (codes "cmd-stats-job") c.stats_job ++
    report_number (codes "cmd-stats-tube") c.stats_tube ++
    report_number (codes "cmd-list-tubes") c.list_tubes ++
    report_number (codes "cmd-list-tube-used") c.list_tube_used ++
    report_number (codes "cmd-list-tubes-watched") c.list_tubes_watched ++
    report_number (codes "cmd-pause-tube") c.pause_tube

-- what is told of the queue beside them, in numbers
abbrev pub queue_figures : QueueState → QueueFigures
queue_figures s =
    record {
      timeouts = s.counts.timeouts;
      puts = s.next_id - 1;
      tubes = length (all_tubes s);
      sessions = length s.sessions;
      producers = sessions_that (λ c. c.role.has_put) s.sessions;
      workers = sessions_that (λ c. c.role.has_reserved) s.sessions;
      waiting = sessions_that is_waiting s.sessions;
      second = s.now;
    }

-- how many jobs there were, and how many tubes and sessions there are
unfoldable pub totals_report : QueueFigures → List ℕ
totals_report f =
    report_number (codes "job-timeouts") f.timeouts ++
    report_number (codes "total-jobs") f.puts ++
    report_number (codes "max-job-size") 65535 ++
    report_number (codes "current-tubes") f.tubes ++
    report_number (codes "current-connections") f.sessions ++
    report_number (codes "current-producers") f.producers ++
    report_number (codes "current-workers") f.workers ++
    report_number (codes "current-waiting") f.waiting ++
    report_line (codes "version") (codes "\"beanpax 0.1\"") ++
    report_number (codes "uptime") f.second

-- how many jobs and sessions there are, and how often each operation was carried out (protocol.txt of beanstalkd, "stats")
unfoldable pub queue_report : QueueState → List ℕ
queue_report s =
    codes "---\n" ++
    tally_report (tally_all s.jobs) ++
    job_counts_report s.counts ++
    other_counts_report s.counts ++
    totals_report (queue_figures s)
