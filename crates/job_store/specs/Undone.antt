-- How changes of the jobs are taken back.
use Rattle.std.specs.Prelude.{ℕ, Bool, true, false, List, [], ◌∷◌, Option, None, Some, if◌then◌else◌}
use Rattle.job_store.specs.declared.history.History.{History}
use Rattle.job_store.specs.declared.job.Job.{Job}
use Rattle.job_store.specs.declared.state.State.{State}
use Rattle.job_store.specs.declared.undo.Undo.{Undo}
use Rattle.job_store.specs.Entries.{altered, without}

-- the jobs that a map holds, and those that it goes back to, where it is in a trial
pub record MapState : Type 0 where
  pub jobs : List (ℕ × Job)
  pub before : Option (List (ℕ × Job))

-- the job, of this priority, in this state and with this history
abbrev pub set_to : ℕ → State → History → Job → Job
set_to pri state history job = record job { pri = pri; state = state; history = history }

-- the jobs after one change is taken back
abbrev pub undone : Undo → List (ℕ × Job) → List (ℕ × Job)
undone (Undo.TakeOut id) jobs = without id jobs
undone (Undo.PutBack id job) jobs = altered id (λ _. job) jobs
undone (Undo.SetBack id pri state history) jobs = altered id (set_to pri state history) jobs

-- the jobs after all these are taken back, the last one first
abbrev pub all_undone : List Undo → List (ℕ × Job) → List (ℕ × Job)
all_undone [] jobs = jobs
all_undone (u ∷ us) jobs = undone u (all_undone us jobs)

-- what takes back a change of a job, if there is one, in a trial
abbrev pub set_back : Bool → ℕ → Option Job → List Undo
set_back false id o = []
set_back true id None = []
set_back true id (Some job) = Undo.SetBack id job.pri job.state job.history ∷ []

-- what takes back that a job was put at an id, in the place of the one that may have been there
abbrev pub put_back : ℕ → Option Job → Undo
put_back id None = Undo.TakeOut id
put_back id (Some job) = Undo.PutBack id job

-- the jobs, and those before the changes of this log, where they are a trial
abbrev pub with_log : Bool → List Undo → List (ℕ × Job) → MapState
with_log is_trial log jobs = record { jobs = jobs; before = if is_trial then Some (all_undone log jobs) else None }
