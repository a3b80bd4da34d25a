-- How many jobs are in each state (protocol.txt of beanstalkd, "stats-tube" and "stats": current-jobs-urgent to
-- current-jobs-buried).
use Rattle.std.specs.Prelude.{ℕ, ◌+◌, ◌<◌, ◌^◌, Bool, true, ◌&&◌, nat_lt, List, length}
use Rattle.std.specs.List.{filter}
use Rattle.job_store.specs.declared.job.Job.{Job}
use Rattle.job_store.specs.declared.tally.Tally.{Tally}
use Rattle.job_store.specs.States.{is_ready, is_delayed, is_buried, is_reserved}
use Rattle.job_store.specs.LookUps.{is_in}

-- the job is ready, and its priority is below 1024
abbrev pub is_urgent : ℕ × Job → Bool
is_urgent e = is_ready e.1.state && nat_lt e.1.pri 1024

-- how many of the jobs pass both tests
abbrev pub how_many : (ℕ × Job → Bool) → (ℕ × Job → Bool) → List (ℕ × Job) → ℕ
how_many one other jobs = length (filter (λ e. one e && other e) jobs)

-- of the jobs that pass the test, how many are in each state
abbrev pub tally_of : (ℕ × Job → Bool) → List (ℕ × Job) → Tally
tally_of test jobs =
    record {
      urgent = how_many is_urgent test jobs;
      ready = how_many (λ e. is_ready e.1.state) test jobs;
      reserved = how_many (λ e. is_reserved e.1.state) test jobs;
      delayed = how_many (λ e. is_delayed e.1.state) test jobs;
      buried = how_many (λ e. is_buried e.1.state) test jobs;
    }

-- the tally of the jobs of a tube
abbrev pub tally_in : List ℕ → List (ℕ × Job) → Tally
tally_in tube jobs = tally_of (is_in tube) jobs

-- the tally of all jobs
abbrev pub tally_all : List (ℕ × Job) → Tally
tally_all jobs = tally_of (λ e. true) jobs

-- two tallies together
abbrev pub together : Tally → Tally → Tally
together a b =
    record {
      urgent = a.urgent + b.urgent;
      ready = a.ready + b.ready;
      reserved = a.reserved + b.reserved;
      delayed = a.delayed + b.delayed;
      buried = a.buried + b.buried;
    }

-- each number may grow
pub record HasRoom (tally : Tally) : Type 0 where
  pub urgent : tally.urgent < 2 ^ 63
  pub ready : tally.ready < 2 ^ 63
  pub reserved : tally.reserved < 2 ^ 63
  pub delayed : tally.delayed < 2 ^ 63
  pub buried : tally.buried < 2 ^ 63
