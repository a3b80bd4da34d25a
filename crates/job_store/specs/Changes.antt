-- A change of a job's priority and state.
use Rattle.std.specs.Prelude.{ℕ, List}
use Rattle.job_store.specs.declared.change.Change.{Change}
use Rattle.job_store.specs.declared.job.Job.{Job}
use Rattle.job_store.specs.Entries.{altered}
use Rattle.job_store.specs.States.{marked_at}

-- the jobs after a change of the one at its id; nothing changes where there is none
abbrev pub after_change : Change → List (ℕ × Job) → List (ℕ × Job)
after_change c es = altered c.id (marked_at c.pri c.state c.mark) es
