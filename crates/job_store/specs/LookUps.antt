-- What is looked up among the jobs, each with its id.
use Rattle.std.specs.Prelude.{◌≡◌, ◌↔◌, ℕ, Bool, true, not, ◌&&◌, ◌||◌, ◌==◌, nat_lt, List, [], ◌∷◌, Option, bytes_eq}
use Rattle.std.specs.List.{filter, list_any}
use Rattle.object.specs.Lists.{In}
use Rattle.job_store.specs.declared.job.Job.{Job}
use Rattle.job_store.specs.States.{is_ready, is_delayed, is_buried, is_reserved, is_held, is_due, due_of, rank_of}
use Rattle.job_store.specs.Least.{least}

-- the tube is one of these
abbrev pub is_among : List ℕ → List (List ℕ) → Bool
is_among tube tubes = list_any (bytes_eq tube) tubes

-- the job is ready, in one of these tubes
abbrev pub ready_in : List (List ℕ) → ℕ × Job → Bool
ready_in tubes e = is_ready e.1.state && is_among e.1.tube tubes

-- the job is delayed, in this tube
abbrev pub delayed_in : List ℕ → ℕ × Job → Bool
delayed_in tube e = is_delayed e.1.state && bytes_eq tube e.1.tube

-- the job is buried, in this tube
abbrev pub buried_in : List ℕ → ℕ × Job → Bool
buried_in tube e = is_buried e.1.state && bytes_eq tube e.1.tube

-- some session has the job, in this tube
abbrev pub reserved_in : List ℕ → ℕ × Job → Bool
reserved_in tube e = is_reserved e.1.state && bytes_eq tube e.1.tube

-- the job is in this tube
abbrev pub is_in : List ℕ → ℕ × Job → Bool
is_in tube e = bytes_eq tube e.1.tube

-- one of the jobs is in this tube
abbrev pub has_jobs : List ℕ → List (ℕ × Job) → Bool
has_jobs tube jobs = list_any (is_in tube) jobs

-- the job's delay, or its time to run, is over at this second
abbrev pub due_by : ℕ → ℕ × Job → Bool
due_by second e = is_due second e.1.state

-- session x has the job
abbrev pub held_by : ℕ → ℕ × Job → Bool
held_by x e = is_held x e.1.state

-- what is least: the priority, the second that is due, or the rank
abbrev pub pri_of_job : Job → ℕ
pri_of_job job = job.pri

abbrev pub due_of_job : Job → ℕ
due_of_job job = due_of job.state

abbrev pub rank_of_job : Job → ℕ
rank_of_job job = rank_of job.state

-- place p comes after this one
abbrev pub is_after : ℕ × ℕ → ℕ × ℕ → Bool
is_after place p = nat_lt place.0 p.0 || (place.0 == p.0 && nat_lt place.1 p.1)

-- the job is due by this second, and comes after a place by (due, id)
abbrev pub due_after : ℕ → ℕ × ℕ → ℕ × Job → Bool
due_after second place e = due_by second e && is_after place (due_of_job e.1, e.0)

-- the tubes but those that are paused
abbrev pub not_paused : List (List ℕ) → List (List ℕ) → List (List ℕ)
not_paused paused tubes = filter (λ t. not (is_among t paused)) tubes

-- the job that a reserve takes from these tubes: of the ready ones that of the least (priority, id) (protocol.txt of
-- beanstalkd, "put": the most urgent priority is 0)
abbrev pub best_ready : List (List ℕ) → List (ℕ × Job) → Option (ℕ × Job)
best_ready tubes jobs = least (ready_in tubes) pri_of_job jobs

-- the next ready job of a tube (protocol.txt of beanstalkd, "peek-ready")
abbrev pub first_ready : List ℕ → List (ℕ × Job) → Option (ℕ × Job)
first_ready tube jobs = best_ready (tube ∷ []) jobs

-- the delayed job of a tube with the shortest delay left (protocol.txt of beanstalkd, "peek-delayed")
abbrev pub first_delayed : List ℕ → List (ℕ × Job) → Option (ℕ × Job)
first_delayed tube jobs = least (delayed_in tube) due_of_job jobs

-- the next job in the list of a tube's buried jobs (protocol.txt of beanstalkd, "peek-buried")
abbrev pub first_buried : List ℕ → List (ℕ × Job) → Option (ℕ × Job)
first_buried tube jobs = least (buried_in tube) rank_of_job jobs

-- the first of the jobs whose delay or time to run is over at this second
abbrev pub first_due : ℕ → List (ℕ × Job) → Option (ℕ × Job)
first_due second jobs = least (due_by second) due_of_job jobs

-- the first of those that come after a place by (due, id)
abbrev pub first_due_after : ℕ → ℕ × ℕ → List (ℕ × Job) → Option (ℕ × Job)
first_due_after second place jobs = least (due_after second place) due_of_job jobs

-- the first of session x's jobs whose time to run will be over
abbrev pub first_held : ℕ → List (ℕ × Job) → Option (ℕ × Job)
first_held x jobs = least (held_by x) due_of_job jobs

-- these are the pairs of priority and id of the tube's ready jobs
abbrev pub AreReadyPlaces : List (ℕ × ℕ) → List ℕ → List (ℕ × Job) → Type 0
AreReadyPlaces places tube jobs = (p : ℕ × ℕ) → In p places ↔ ((e : ℕ × Job) × In e jobs × (ready_in (tube ∷ []) e ≡ true) × (p ≡ (e.1.pri, e.0)))
