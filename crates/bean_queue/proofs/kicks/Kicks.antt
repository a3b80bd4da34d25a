-- Kicks one by one.
use Rattle.std.proofs.Common.{◌≡◌, ℕ, zero, suc, ◌+◌, ◌-◌, ◌<◌, List, Option, Some, None, refl, sym, ap, ◌∙◌, arith}
use Rattle.job_store.specs.declared.job.Job.{Job}
use Rattle.job_store.specs.Entries.{altered}
use Rattle.job_store.specs.States.{kicked_job}
use Rattle.bean_queue.specs.Rows.{Kicked, and_one, kicked_option, kicked}

module _ (pick : List (ℕ × Job) → Option (ℕ × Job)) where
  stop : (n : ℕ) (jobs : List (ℕ × Job)) → pick jobs ≡ None → kicked pick n jobs ≡ record { jobs = jobs; count = 0 }
  unfolding kicked
  stop zero jobs e = refl
  stop (suc n) jobs e = ap (kicked_option (kicked pick n) jobs) e

  none_left : (n : ℕ) (jobs : List (ℕ × Job)) → n ≡ 0 → kicked pick n jobs ≡ record { jobs = jobs; count = 0 }
  unfolding kicked
  none_left n jobs e = ap (λ m. kicked pick m jobs) e

  more : (n m : ℕ) (jobs jobs' : List (ℕ × Job)) (e : ℕ × Job) → n ≡ suc m → pick jobs ≡ Some e
      → jobs' ≡ altered e.0 kicked_job jobs → kicked pick n jobs ≡ and_one (kicked pick m jobs')
  unfolding kicked
  more n m jobs jobs' e s p j =
      ap (λ n. kicked pick n jobs) s ∙ ap (kicked_option (kicked pick m) jobs) p ∙ ap (λ es. and_one (kicked pick m es)) (sym j)

  -- what is so of a loop that kicks, after `count` kicks of `bound`
  pub record IsKicking (bound count : ℕ) (jobs first : List (ℕ × Job)) : Type 0 where
    pub jobs_so : (kicked pick (bound - count) jobs).jobs ≡ (kicked pick bound first).jobs
    pub count_so : count + (kicked pick (bound - count) jobs).count ≡ (kicked pick bound first).count

  pub kicking-first : (bound : ℕ) (jobs : List (ℕ × Job)) → IsKicking bound 0 jobs jobs
  kicking-first bound jobs =
      let all : bound - 0 ≡ bound = omega arith in
      record {
        jobs_so = ap (λ n. (kicked pick n jobs).jobs) all;
        count_so = omega (arith, ap (λ n. (kicked pick n jobs).count) all);
      }

  pub kicking-more : (bound count : ℕ) (jobs jobs' first : List (ℕ × Job)) (e : ℕ × Job) → count < bound
      → pick jobs ≡ Some e → jobs' ≡ altered e.0 kicked_job jobs → IsKicking bound count jobs first
      → IsKicking bound (count + 1) jobs' first
  kicking-more bound count jobs jobs' first e below p j k =
      let one = more (bound - count) (bound - (count + 1)) jobs jobs' e (omega arith) p j in
      record {
        jobs_so = sym (ap (λ (k : Kicked). k.jobs) one) ∙ k.jobs_so;
        count_so = omega (arith, ap (λ (k : Kicked). k.count) one, k.count_so);
      }

  pub kicking-none : (bound count : ℕ) (jobs first : List (ℕ × Job)) → pick jobs ≡ None
      → IsKicking bound count jobs first → (jobs ≡ (kicked pick bound first).jobs)
      × (count ≡ (kicked pick bound first).count)
  kicking-none bound count jobs first e k =
      let none = stop (bound - count) jobs e in
      (sym (ap (λ (k : Kicked). k.jobs) none) ∙ k.jobs_so, omega (arith, ap (λ (k : Kicked). k.count) none, k.count_so))

  pub kicking-end : (bound count : ℕ) (jobs first : List (ℕ × Job)) → count ≡ bound → IsKicking bound count jobs first
      → (jobs ≡ (kicked pick bound first).jobs) × (bound ≡ (kicked pick bound first).count)
  kicking-end bound count jobs first e k =
      let none = none_left (bound - count) jobs (omega arith) in
      (sym (ap (λ (k : Kicked). k.jobs) none) ∙ k.jobs_so, omega (arith, ap (λ (k : Kicked). k.count) none, k.count_so, e))
