-- Whether the first of a session's jobs is due tells whether one is.
use Rattle.std.proofs.Common.{◌≡◌, ℕ, Bool, true, false, cond, ◌||◌, ◌&&◌, List, [], ◌∷◌, Option, None, Some, nat_le, refl, ap, ◌∙◌, arith}
use Rattle.std.proofs.lemmas.Bool.Decides.{nat_tests}
use Rattle.job_store.specs.declared.job.Job.{Job}
use Rattle.job_store.specs.Least.{comes_before, lesser}
use Rattle.job_store.specs.LookUps.{due_of_job, first_held}
use Rattle.job_store.specs.States.{is_held, due_of}
use Rattle.bean_queue.specs.Queue.{holds_by}

-- the job that there may be is due by the second
is_by : ℕ → Option (ℕ × Job) → Bool
is_by second None = false
is_by second (Some e) = nat_le (due_of e.1.state) second

earlier : (d e : ℕ × Job) (second : ℕ) → comes_before due_of_job d e ≡ true
    → (nat_le (due_of e.1.state) second || nat_le (due_of d.1.state) second) ≡ nat_le (due_of d.1.state) second
earlier d e second h = grind (arith, nat_tests)

not_earlier : (d e : ℕ × Job) (second : ℕ) → comes_before due_of_job d e ≡ false
    → (nat_le (due_of e.1.state) second || nat_le (due_of d.1.state) second) ≡ nat_le (due_of e.1.state) second
not_earlier d e second h = grind (arith, nat_tests)

either_way : (e : ℕ × Job) (second : ℕ) (o : Option (ℕ × Job))
    → (nat_le (due_of e.1.state) second || is_by second o) ≡ is_by second (Some (lesser due_of_job e o))
unfolding is_by
either_way e second None = elim (nat_le (due_of e.1.state) second) as (λ b. (b || false) ≡ b) [ true ↦ refl | false ↦ refl ]
either_way e second (Some d) =
    elim (comes_before due_of_job d e) as (λ b. comes_before due_of_job d e ≡ b
    → (nat_le (due_of e.1.state) second || nat_le (due_of d.1.state) second)
    ≡ nat_le (due_of (cond b d e).1.state) second) [
      | true ↦ λ h. earlier d e second h
      | false ↦ λ h. not_earlier d e second h
    ] refl

holds-first : (x second : ℕ) (jobs : List (ℕ × Job)) → holds_by x second jobs ≡ is_by second (first_held x jobs)
unfolding is_by
holds-first x second [] = refl
holds-first x second (e ∷ es) =
    elim (is_held x e.1.state) as (λ b. ((b && nat_le (due_of e.1.state) second) || holds_by x second es)
    ≡ is_by second (cond b (Some (lesser due_of_job e (first_held x es))) (first_held x es))) [
      | true ↦ ap (λ b. nat_le (due_of e.1.state) second || b) (holds-first x second es) ∙ either_way e second (first_held x es)
      | false ↦ holds-first x second es
    ]

pub held_none : (x second : ℕ) (jobs : List (ℕ × Job)) → first_held x jobs ≡ None → holds_by x second jobs ≡ false
unfolding is_by
held_none x second jobs e = holds-first x second jobs ∙ ap (is_by second) e

pub held_some : (x second : ℕ) (jobs : List (ℕ × Job)) (e : ℕ × Job) → first_held x jobs ≡ Some e → holds_by x second jobs ≡ nat_le (due_of e.1.state) second
unfolding is_by
held_some x second jobs e f = holds-first x second jobs ∙ ap (is_by second) f
