-- What has happened to a job (protocol.txt of beanstalkd, "stats-job": age, delay, reserves, timeouts, releases, buries,
-- kicks).
use Rattle.std.specs.Prelude.{ℕ, ◌+◌, ◌-◌, ◌^◌, min}
use Rattle.job_store.specs.declared.history.History.{History}
use Rattle.job_store.specs.declared.mark.Mark.{Mark}

-- the history of a job that is put in this second, with this delay
abbrev pub new_history : ℕ → ℕ → History
new_history second delay =
    record { put_at = second; delay = delay; reserves = 0; timeouts = 0; releases = 0; buries = 0; kicks = 0 }

-- once more, where the count isn't the greatest that there is
abbrev pub once_more : ℕ → ℕ
once_more count = min (count + 1) (2 ^ 32 - 1)

-- a session gets the job
abbrev pub and_reserved : History → History
and_reserved h = record h { reserves = once_more h.reserves }

-- the job's time to run is over
abbrev pub and_timed_out : History → History
and_timed_out h = record h { timeouts = once_more h.timeouts }

-- the job's session gives it back, with this delay
abbrev pub and_released : ℕ → History → History
and_released delay h = record h { delay = delay; releases = once_more h.releases }

-- the job's session lays it aside
abbrev pub and_buried : History → History
and_buried h = record h { buries = once_more h.buries }

-- the job is kicked
abbrev pub and_kicked : History → History
and_kicked h = record h { kicks = once_more h.kicks }

-- the history, with this mark
abbrev pub after_mark : Mark → History → History
after_mark Mark.Nothing h = h
after_mark Mark.Reserved h = and_reserved h
after_mark Mark.TimedOut h = and_timed_out h
after_mark (Mark.Released delay) h = and_released delay h
after_mark Mark.Buried h = and_buried h
after_mark Mark.Kicked h = and_kicked h
