-- Tubes of jobs that are added to a set.
use Rattle.std.proofs.Common.{◌≡◌, ℕ, true, false, ◌||◌, ◌⊎◌, inl, inr, List, [], sym, subst, ◌∙◌, bytes_eq}
use Rattle.std.proofs.lemmas.Bool.{or_cases, or_left, or_right}
use Rattle.std.proofs.lemmas.Slice.Eq.{bytes_eq-Decides}
use Rattle.object.specs.Lists.{In}
use Rattle.job_store.specs.declared.job.Job.{Job}
use Rattle.job_store.specs.LookUps.{has_jobs}

pub record AreAdded (first names : List (List ℕ)) (rest jobs : List (ℕ × Job)) : Type 0 where
  pub kept : (t : List ℕ) → In t first → In t names
  pub only : (t : List ℕ) → In t names → In t first ⊎ (has_jobs t jobs ≡ true)
  pub all : (t : List ℕ) → has_jobs t jobs ≡ true → In t names ⊎ (has_jobs t rest ≡ true)
  pub part : (t : List ℕ) → has_jobs t rest ≡ true → has_jobs t jobs ≡ true

pub none-added : (names : List (List ℕ)) (rest jobs : List (ℕ × Job)) → rest ≡ jobs → AreAdded names names rest jobs
none-added names rest jobs is = record {
  kept = λ t i. i;
  only = λ t i. inl i;
  all = λ t h. inr (subst (λ js. has_jobs t js ≡ true) (sym is) h);
  part = λ t h. subst (λ js. has_jobs t js ≡ true) is h;
}

module _ (first names names' : List (List ℕ)) (old rest jobs : List (ℕ × Job)) (tube : List ℕ)
    (cut : (t : List ℕ) → has_jobs t old ≡ (bytes_eq t tube || has_jobs t rest))
    (kept : (t : List ℕ) → In t names → In t names') (only : (t : List ℕ) → In t names' → In t names ⊎ (t ≡ tube))
    (added : AreAdded first names old jobs) where
  pub kept-more : (t : List ℕ) → In t first → In t names'
  kept-more t i = kept t (added.kept t i)

  -- also where memory was refused after it
  pub only-more : (t : List ℕ) → In t names' → In t first ⊎ (has_jobs t jobs ≡ true)
  only-more t i =
      elim (only t i) as (λ v. In t first ⊎ (has_jobs t jobs ≡ true)) [
        | inl was ↦ added.only t was
        | inr same ↦ inr (added.part t (cut t ∙ or_left (bytes_eq t tube) (has_jobs t rest) ((bytes_eq-Decides t tube).1 same)))
      ]

  pub one-added : In tube names' → AreAdded first names' rest jobs
  one-added there = record {
    kept = kept-more;
    only = only-more;
    all = λ t h.
        elim (added.all t h) as (λ v. In t names' ⊎ (has_jobs t rest ≡ true)) [
          | inl i ↦ inl (kept t i)
          | inr more ↦ elim (or_cases (bytes_eq t tube) (has_jobs t rest) (sym (cut t) ∙ more)) as (λ v. In t names' ⊎ (has_jobs t rest ≡ true)) [
            | inl here ↦ inl (subst (λ u. In u names') (sym ((bytes_eq-Decides t tube).0 here)) there)
            | inr later ↦ inr later
          ]
        ];
    part = λ t h. added.part t (cut t ∙ or_right (bytes_eq t tube) (has_jobs t rest) h);
  }

pub all-added : (first names : List (List ℕ)) (rest jobs : List (ℕ × Job)) → rest ≡ [] → AreAdded first names rest jobs
    → (t : List ℕ) → has_jobs t jobs ≡ true → In t names
all-added first names rest jobs none added t h =
    elim (added.all t h) as (λ v. In t names) [ inl i ↦ i | inr more ↦ let never : false ≡ true = subst (λ js. has_jobs t js ≡ true) none more in cc ]
