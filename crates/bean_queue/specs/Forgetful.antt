-- States where nothing is counted, and which acts ask for counts.
use Rattle.std.specs.Prelude.{ℕ, Bool, true, false, List, []}
use Rattle.object.specs.declared.command.Act.{Act}
use Rattle.job_store.specs.declared.job.Job.{Job}
use Rattle.job_store.specs.Entries.{each_value}
use Rattle.job_store.specs.Histories.{new_history}
use Rattle.bean_words.specs.declared.op.Op.{Op}
use Rattle.bean_queue.specs.Counting.{nothing_counted}
use Rattle.bean_queue.specs.Queue.{QueueState}

-- the job, with a history that says nothing
abbrev pub without_history : Job → Job
without_history job = record job { history = new_history 0 0 }

-- the state, with these jobs, and with nothing that was done with tubes or counted
abbrev pub uncounted : QueueState → List (ℕ × Job) → QueueState
uncounted s jobs = record s { jobs = jobs; tubes = []; counts = nothing_counted }

-- the state, as if nothing had been counted: its jobs have histories that say nothing
abbrev pub without_counts : QueueState → QueueState
without_counts s = uncounted s (each_value without_history s.jobs)

-- the operation asks what is counted
abbrev pub is_report : Op → Bool
is_report (Op.StatsJob id) = true
is_report (Op.StatsTube tube) = true
is_report Op.Stats = true
is_report _ = false

-- the act does
abbrev pub asks_for_report : Act Op → Bool
asks_for_report (Act.Do op) = is_report op
asks_for_report Act.Close = false
asks_for_report Act.Tick = false
