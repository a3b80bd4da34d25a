-- Which jobs a kick makes ready.
use Rattle.std.specs.Prelude.{ℕ, Bool, ◌&&◌, List, map, filter, nat_lt, length, if◌then◌else◌}
use Rattle.std.specs.List.{list_any}
use Rattle.job_store.specs.declared.job.Job.{Job}
use Rattle.job_store.specs.Least.{comes_before}
use Rattle.job_store.specs.LookUps.{buried_in, delayed_in, rank_of_job, due_of_job}
use Rattle.job_store.specs.States.{kicked_job}

module _ (test : ℕ × Job → Bool) (by : Job → ℕ) where
  -- how many of the jobs that pass come before this one, by their numbers and then by their ids
  abbrev pub passing_before : List (ℕ × Job) → ℕ × Job → ℕ
  passing_before jobs e = length (filter (λ d. test d && comes_before by d e) jobs)

  -- the job is one of the first n of those that pass
  abbrev pub is_among_first : ℕ → List (ℕ × Job) → ℕ × Job → Bool
  is_among_first n jobs e = test e && nat_lt (passing_before jobs e) n

  -- the first n of the jobs that pass are kicked, so they are ready, and the others are as they were
  abbrev pub with_first_ready : ℕ → List (ℕ × Job) → List (ℕ × Job)
  with_first_ready n jobs = map (λ e. (e.0, if is_among_first n jobs e then kicked_job e.1 else e.1)) jobs

-- the first `bound` buried jobs of the tube by (rank, id) are kicked, or where it has none its first delayed ones by
-- (due, id) (protocol.txt of beanstalkd, "kick")
abbrev pub after_kick : List ℕ → ℕ → List (ℕ × Job) → List (ℕ × Job)
after_kick tube bound jobs =
    if list_any (buried_in tube) jobs
    then with_first_ready (buried_in tube) rank_of_job bound jobs
    else with_first_ready (delayed_in tube) due_of_job bound jobs
