-- What tubes offer to the sessions that wait, while one job is given after another.
use Rattle.std.specs.Prelude.{◌≡◌, ◌↔◌, ◌⊎◌, ℕ, Bool, true, ◌&&◌, List, Option, None, Some, option_map, if◌then◌else◌}
use Rattle.std.specs.declared.cmp.Ordering.{Ordering}
use Rattle.std.specs.Ordering.{nat_cmp, ordering_then}
use Rattle.std.specs.BTreeSet.{contains}
use Rattle.object.specs.Lists.{In}
use Rattle.job_store.specs.declared.job.Job.{Job}
use Rattle.job_store.specs.Entries.{value_at}
use Rattle.job_store.specs.Least.{ComesBefore}
use Rattle.job_store.specs.LookUps.{first_ready, pri_of_job}
use Rattle.job_store.specs.States.{is_ready}
use Rattle.bean_queue.specs.declared.offers.Offers.{Offers}
use Rattle.bean_queue.specs.Queue.{QueueState, paused_tubes}
use Rattle.bean_queue.specs.Woken.{has_taker}

-- places go by the priority, and then by the id
abbrev pub offer_cmp : ℕ × ℕ → ℕ × ℕ → Ordering
offer_cmp p q = ordering_then (nat_cmp p.0 q.0) (nat_cmp p.1 q.1)

-- the place of a job: its priority and its id
abbrev pub offer_place : ℕ × Job → ℕ × ℕ
offer_place e = (e.1.pri, e.0)

-- a job at this place is offered
abbrev pub IsOffered : Offers → ℕ × ℕ → Type 0
IsOffered offers p = contains offer_cmp offers.places p ≡ true

-- the job is ready, and its tube has a taker
abbrev pub is_takable : (List ℕ → Bool) → ℕ × Job → Bool
is_takable takes e = is_ready e.1.state && takes e.1.tube

-- a ready job stands at the place
pub record IsReadyAt (jobs : List (ℕ × Job)) (p : ℕ × ℕ) : Type 0 where
  pub job : Job
  pub there : In (p.1, job) jobs
  pub ready : is_ready job.state ≡ true
  pub pri : p.0 ≡ job.pri

-- a job of the same tube is offered, before which this one doesn't come
pub record HasOffer (offers : Offers) (jobs : List (ℕ × Job)) (j : ℕ × Job) : Type 0 where
  pub job : ℕ × Job
  pub there : In job jobs
  pub tube : job.1.tube ≡ j.1.tube
  pub not_after : ComesBefore pri_of_job j job → ⊥
  pub offered : IsOffered offers (offer_place job)

-- each offer is a ready job; and each ready job of a tube that has a taker is offered, or another one of its tube that
-- it doesn't come before
pub record HasOffers (offers : Offers) (takes : List ℕ → Bool) (jobs : List (ℕ × Job)) : Type 0 where
  pub ready : (p : ℕ × ℕ) → IsOffered offers p → IsReadyAt jobs p
  pub each : (j : ℕ × Job) → In j jobs → is_takable takes j ≡ true → HasOffer offers jobs j

-- the same of a queue's jobs
abbrev pub OffersJobsOf : Offers → QueueState → Type 0
OffersJobsOf offers s = HasOffers offers (has_taker (paused_tubes s) s.sessions) s.jobs

-- each ready job of a tube that has a taker is in one of these tubes
abbrev pub CoverTakable : List (List ℕ) → (List ℕ → Bool) → List (ℕ × Job) → Type 0
CoverTakable tubes takes jobs = (j : ℕ × Job) → In j jobs → is_takable takes j ≡ true → In j.1.tube tubes

-- the job at an id, if its tube has a taker
abbrev pub takable_at : (List ℕ → Bool) → ℕ → List (ℕ × Job) → Option Job
takable_at takes id jobs =
    elim (value_at id jobs) [ None ↦ None | Some job ↦ if takes job.tube then Some job else None ]

-- the next ready job of the tube of the job at an id
abbrev pub next_beside : ℕ → List (ℕ × Job) → Option (ℕ × Job)
next_beside id jobs = elim (value_at id jobs) [ None ↦ None | Some job ↦ first_ready job.tube jobs ]

-- the job that there may be is offered too
abbrev pub OffersToo : Offers → Offers → Option (ℕ × Job) → Type 0
OffersToo old new o = (p : ℕ × ℕ) → IsOffered new p ↔ (IsOffered old p ⊎ (option_map offer_place o ≡ Some p))

-- no job at this place is offered any more
abbrev pub Withdraws : Offers → Offers → ℕ × ℕ → Type 0
Withdraws old new place = (p : ℕ × ℕ) → IsOffered new p ↔ (IsOffered old p × (p ≡ place → ⊥))

-- no job at this place is offered any more, but the one that there may be
abbrev pub OffersInstead : Offers → Offers → ℕ × ℕ → Option (ℕ × Job) → Type 0
OffersInstead old new place o =
    (p : ℕ × ℕ) → IsOffered new p ↔ ((IsOffered old p × (p ≡ place → ⊥)) ⊎ (option_map offer_place o ≡ Some p))
