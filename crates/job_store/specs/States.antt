-- What is asked of a job's state (protocol.txt of beanstalkd, "Job Lifecycle").
use Rattle.std.specs.Prelude.{ℕ, Bool, true, false, ◌==◌, nat_le, if◌then◌else◌}
use Rattle.job_store.specs.declared.history.History.{History}
use Rattle.job_store.specs.declared.job.Job.{Job}
use Rattle.job_store.specs.declared.mark.Mark.{Mark}
use Rattle.job_store.specs.declared.state.State.{State}
use Rattle.job_store.specs.Histories.{after_mark, and_reserved, and_released, and_buried, and_kicked, and_timed_out}

-- anyone who watches its tube may reserve the job
abbrev pub is_ready : State → Bool
is_ready State.Ready = true
is_ready (State.Delayed due) = false
is_ready (State.Reserved y due) = false
is_ready (State.Buried rank) = false

-- the job waits for a second to come
abbrev pub is_delayed : State → Bool
is_delayed State.Ready = false
is_delayed (State.Delayed due) = true
is_delayed (State.Reserved y due) = false
is_delayed (State.Buried rank) = false

-- the job is put aside
abbrev pub is_buried : State → Bool
is_buried State.Ready = false
is_buried (State.Delayed due) = false
is_buried (State.Reserved y due) = false
is_buried (State.Buried rank) = true

-- some session has the job
abbrev pub is_reserved : State → Bool
is_reserved State.Ready = false
is_reserved (State.Delayed due) = false
is_reserved (State.Reserved y due) = true
is_reserved (State.Buried rank) = false

-- session x has the job
abbrev pub is_held : ℕ → State → Bool
is_held x State.Ready = false
is_held x (State.Delayed due) = false
is_held x (State.Reserved y due) = x == y
is_held x (State.Buried rank) = false

-- the job is delayed or reserved, and so due in some second
abbrev pub is_scheduled : State → Bool
is_scheduled State.Ready = false
is_scheduled (State.Delayed due) = true
is_scheduled (State.Reserved y due) = true
is_scheduled (State.Buried rank) = false

-- the job's delay, or its time to run, is over at this second
abbrev pub is_due : ℕ → State → Bool
is_due second State.Ready = false
is_due second (State.Delayed due) = nat_le due second
is_due second (State.Reserved y due) = nat_le due second
is_due second (State.Buried rank) = false

-- the session that has a reserved job, and 0 for others
abbrev pub holder_of : State → ℕ
holder_of State.Ready = 0
holder_of (State.Delayed due) = 0
holder_of (State.Reserved y due) = y
holder_of (State.Buried rank) = 0

-- the second in which a delayed or reserved job is due, and 0 for others
abbrev pub due_of : State → ℕ
due_of State.Ready = 0
due_of (State.Delayed due) = due
due_of (State.Reserved y due) = due
due_of (State.Buried rank) = 0

-- the rank of a buried job, and 0 for others
abbrev pub rank_of : State → ℕ
rank_of State.Ready = 0
rank_of (State.Delayed due) = 0
rank_of (State.Reserved y due) = 0
rank_of (State.Buried rank) = rank

-- the job, in this state
abbrev pub with_state : State → Job → Job
with_state state job = record job { state = state }

-- the job in this state, with this mark in its history
abbrev pub marked : State → Mark → Job → Job
marked state mark job = record job { state = state; history = after_mark mark job.history }

-- the job at this priority and in this state, with this mark in its history
abbrev pub marked_at : ℕ → State → Mark → Job → Job
marked_at pri state mark job = record job { pri = pri; state = state; history = after_mark mark job.history }

-- session x gets the job, until the second that is due
abbrev pub reserved_job : ℕ → ℕ → Job → Job
reserved_job x due job = record job { state = State.Reserved x due; history = and_reserved job.history }

-- the job's session gives it back, at this priority and with this delay, which leads to this state
abbrev pub released_job : ℕ → ℕ → State → Job → Job
released_job pri delay state job =
    record job { pri = pri; state = state; history = and_released delay job.history }

-- the job's session lays it aside, at this priority and under this rank
abbrev pub buried_job : ℕ → ℕ → Job → Job
buried_job pri rank job = record job { pri = pri; state = State.Buried rank; history = and_buried job.history }

-- the job is kicked: it is ready
abbrev pub kicked_job : Job → Job
kicked_job job = record job { state = State.Ready; history = and_kicked job.history }

-- the history of a job whose delay or time to run is over in this state; of a reserved one that is counted
abbrev pub over_history : State → History → History
over_history state h = if is_reserved state then and_timed_out h else h

-- the job's delay or its time to run is over: it is ready
abbrev pub over_job : Job → Job
over_job job = record job { state = State.Ready; history = over_history job.state job.history }
