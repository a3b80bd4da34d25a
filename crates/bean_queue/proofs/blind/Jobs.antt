-- Jobs without their histories: what is looked up among them, and what becomes of them.
use Rattle.std.proofs.Common.{◌≡◌, ℕ, Bool, true, false, cond, not, ◌||◌, List, [], ◌∷◌, map, Option, Some, None, option_map}
use Rattle.std.proofs.Common.{◌==◌, nat_cmp, refl, ap, ap₂, Less, Equal, Greater}
use Rattle.std.specs.List.{list_any}
use Rattle.std.specs.Ordering.{match_ordering}
use Rattle.job_store.specs.declared.job.Job.{Job}
use Rattle.job_store.specs.Entries.{each_value, altered, without, with_value}
use Rattle.job_store.specs.Least.{comes_before, lesser, least}
use Rattle.bean_queue.specs.Forgetful.{without_history}

-- a job with its id
abbrev pub blank : ℕ × Job → ℕ × Job
blank e = (e.0, without_history e.1)

-- all of them
abbrev pub blanks : List (ℕ × Job) → List (ℕ × Job)
blanks jobs = each_value without_history jobs

-- what is made of a job is the same but for the history, whatever its history was
abbrev pub IsBlind : (Job → Job) → Type 0
IsBlind f = (job : Job) → without_history (f (without_history job)) ≡ without_history (f job)

-- a test takes no notice of the history
abbrev pub IsBlindTest : (ℕ × Job → Bool) → Type 0
IsBlindTest test = (e : ℕ × Job) → test (blank e) ≡ test e

-- and a number doesn't
abbrev pub IsBlindNumber : (Job → ℕ) → Type 0
IsBlindNumber by = (job : Job) → by (without_history job) ≡ by job

pub blanks-twice : (jobs : List (ℕ × Job)) → blanks (blanks jobs) ≡ blanks jobs
blanks-twice [] = refl
blanks-twice (e ∷ es) = ap (λ zs. blank e ∷ zs) (blanks-twice es)

-- What becomes of them

pub altered-blind : (k : ℕ) (f : Job → Job) (jobs : List (ℕ × Job)) → IsBlind f → blanks (altered k f (blanks jobs)) ≡ blanks (altered k f jobs)
altered-blind k f [] blind = refl
altered-blind k f (e ∷ es) blind =
    ap₂ (λ v zs. (e.0, v) ∷ zs)
    (elim (k == e.0) as (λ b. without_history (cond b (f (without_history e.1)) (without_history e.1)) ≡ without_history (cond b (f e.1) e.1)) [
      | true ↦ blind e.1
      | false ↦ refl
    ])
    (altered-blind k f es blind)

pub each-blind : (f : Job → Job) (jobs : List (ℕ × Job)) → IsBlind f → blanks (each_value f (blanks jobs)) ≡ blanks (each_value f jobs)
each-blind f [] blind = refl
each-blind f (e ∷ es) blind = ap₂ (λ v zs. (e.0, v) ∷ zs) (blind e.1) (each-blind f es blind)

pub without-blind : (k : ℕ) (jobs : List (ℕ × Job)) → blanks (without k (blanks jobs)) ≡ blanks (without k jobs)
without-blind k [] = refl
without-blind k (e ∷ es) =
    elim (not (k == e.0)) as (λ b. blanks (cond b (blank e ∷ without k (blanks es)) (without k (blanks es))) ≡
    blanks (cond b (e ∷ without k es) (without k es))) [
      | true ↦ ap (λ zs. blank e ∷ zs) (without-blind k es)
      | false ↦ without-blind k es
    ]

pub insert-blind : (k : ℕ) (v : Job) (jobs : List (ℕ × Job)) → blanks (with_value k v (blanks jobs)) ≡ blanks (with_value k v jobs)
insert-blind k v [] = refl
insert-blind k v (e ∷ es) =
    elim (nat_cmp k e.0) as (λ o. blanks (match_ordering o ((k, v) ∷ blank e ∷ blanks es) ((e.0, v) ∷ blanks es) (blank e ∷ with_value k v (blanks es)))
    ≡ blanks (match_ordering o ((k, v) ∷ e ∷ es) ((e.0, v) ∷ es) (e ∷ with_value k v es))) [
      | Less ↦ ap (λ zs. (k, without_history v) ∷ blank e ∷ zs) (blanks-twice es)
      | Equal ↦ ap (λ zs. (e.0, without_history v) ∷ zs) (blanks-twice es)
      | Greater ↦ ap (λ zs. blank e ∷ zs) (insert-blind k v es)
    ]

-- What is looked up

lesser-blind : (by : Job → ℕ) (e : ℕ × Job) (o : Option (ℕ × Job)) → IsBlindNumber by
    → lesser by (blank e) (option_map blank o) ≡ blank (lesser by e o)
lesser-blind by e None blind = refl
lesser-blind by e (Some d) blind =
    rw (blind d.1, blind e.1)
    (elim (comes_before by d e) as (λ b. cond b (blank d) (blank e) ≡ blank (cond b d e)) [ true ↦ refl | false ↦ refl ])

pub least-blind : (test : ℕ × Job → Bool) (by : Job → ℕ) (jobs : List (ℕ × Job)) → IsBlindTest test → IsBlindNumber by
    → least test by (blanks jobs) ≡ option_map blank (least test by jobs)
least-blind test by [] tests numbers = refl
least-blind test by (e ∷ es) tests numbers =
    rw (tests e, least-blind test by es tests numbers)
    (elim (test e) as (λ b. cond b (Some (lesser by (blank e) (option_map blank (least test by es)))) (option_map blank (least test by es))
    ≡ option_map blank (cond b (Some (lesser by e (least test by es))) (least test by es))) [
      | true ↦ ap Some (lesser-blind by e (least test by es) numbers)
      | false ↦ refl
    ])

pub any-blind : (test : ℕ × Job → Bool) (jobs : List (ℕ × Job)) → IsBlindTest test → list_any test (blanks jobs) ≡ list_any test jobs
any-blind test [] tests = refl
any-blind test (e ∷ es) tests = ap₂ (λ b c. b || c) (tests e) (any-blind test es tests)

pub tubes-blind : (jobs : List (ℕ × Job)) → map (λ e. e.1.tube) (blanks jobs) ≡ map (λ e. e.1.tube) jobs
tubes-blind [] = refl
tubes-blind (e ∷ es) = ap (λ zs. e.1.tube ∷ zs) (tubes-blind es)
