-- Whom a tick may have to tell of a job that is due soon.
use Rattle.std.specs.Prelude.{◌≡◌, ◌↔◌, ℕ, Bool, true, ◌&&◌, List, [], ◌∷◌, filter, length, ◌==◌, nat_le, if◌then◌else◌}
use Rattle.object.specs.Lists.{In}
use Rattle.job_store.specs.declared.job.Job.{Job}
use Rattle.job_store.specs.declared.state.State.{State}
use Rattle.job_store.specs.States.{is_held, due_of}
use Rattle.session_store.specs.declared.session.SessionState.{SessionState}
use Rattle.session_store.specs.Sessions.{is_waiting, session_of}
use Rattle.bean_queue.specs.Queue.{holds_by}

-- each waiting session that has a job due by this second has its number among these
abbrev pub HasHolders : List ℕ → ℕ → List (ℕ × Job) → List (ℕ × SessionState) → Type 0
HasHolders numbers second jobs sessions =
    (w : ℕ × SessionState) →
    In w sessions →
    is_waiting w.1 ≡ true →
    holds_by w.0 second jobs ≡ true →
    In w.0 numbers

-- session x waits
abbrev pub waits_at : List (ℕ × SessionState) → ℕ → Bool
waits_at sessions x = is_waiting (session_of x sessions)

-- the session that has a job in this state, if it waits
abbrev pub waiting_holder : List (ℕ × SessionState) → State → List ℕ
waiting_holder sessions (State.Reserved x due) = if waits_at sessions x then x ∷ [] else []
waiting_holder sessions _ = []

-- these are the numbers of the sessions that wait and have a job due by this second
abbrev pub AreHolders : List ℕ → ℕ → List (ℕ × Job) → List (ℕ × SessionState) → Type 0
AreHolders numbers second jobs sessions =
    (x : ℕ) → In x numbers ↔ ((waits_at sessions x && holds_by x second jobs) ≡ true)

-- some session waits and has a job due by this second
abbrev pub IsSomeHolder : ℕ → List (ℕ × Job) → List (ℕ × SessionState) → Type 0
IsSomeHolder second jobs sessions = (x : ℕ) × ((waits_at sessions x && holds_by x second jobs) ≡ true)

-- how often session x stands among these
abbrev pub times_noted : ℕ → List ℕ → ℕ
times_noted x numbers = length (filter (λ n. x == n) numbers)

-- whether session x has the job, and it is due by this second
abbrev pub has_due : ℕ → ℕ → ℕ × Job → Bool
has_due x second e = is_held x e.1.state && nat_le (due_of e.1.state) second

-- each session that waits stands among these as often as it has a job due by this second
abbrev pub StandAsOften : List ℕ → ℕ → List (ℕ × Job) → List (ℕ × SessionState) → Type 0
StandAsOften numbers second jobs sessions =
    (x : ℕ) → waits_at sessions x ≡ true → times_noted x numbers ≡ length (filter (has_due x second) jobs)
