-- Whether list-tubes names a tube.
use Rattle.std.proofs.Common.{◌≡◌, ℕ, Bool, true, false, ◌||◌, ◌⊎◌, inl, inr, List, [], ◌∷◌, codes, bytes_eq, refl, sym, ap, subst, ◌∙◌, true≢false}
use Rattle.std.specs.List.{list_any}
use Rattle.std.specs.List.Sorted.{IsStrictlySortedBy}
use Rattle.object.specs.Lists.{In}
use Rattle.std.proofs.lemmas.Bool.{or_cases}
use Rattle.std.proofs.lemmas.Slice.Eq.{bytes_eq-Decides}
use Rattle.job_store.specs.declared.job.Job.{Job}
use Rattle.bean_words.specs.Names.{name_cmp}
use Rattle.job_store.specs.LookUps.{is_among, has_jobs}
use Rattle.job_store.proofs.least.Least.{among-member}
use Rattle.session_store.proofs.Found.{any-in, in-any}
use Rattle.bean_queue.specs.Queue.{QueueState}
use Rattle.bean_queue.specs.Tubes.{all_tubes, IsTube}
use Rattle.bean_queue.proofs.tubes.TubeLists.{same-names, tubes-all, tubes-sorted}

same-bytes : (x y : List ℕ) → bytes_eq x y ≡ true → x ≡ y
same-bytes x y t = (bytes_eq-Decides x y).0 t

alike : (x y : List ℕ) → x ≡ y → bytes_eq x y ≡ true
alike x y e = (bytes_eq-Decides x y).1 e

pub it-is : (s : QueueState) (tube : List ℕ) → IsTube s tube → is_among tube (all_tubes s) ≡ true
it-is s tube is = (among-member tube (all_tubes s)).1 ((tubes-all s tube).1 is)

pub by-default : (s : QueueState) (tube : List ℕ) → bytes_eq tube (codes "default") ≡ true → is_among tube (all_tubes s) ≡ true
by-default s tube t = it-is s tube (IsTube.default (same-bytes tube (codes "default") t))

pub by-job : (s : QueueState) (tube : List ℕ) → list_any (λ e. bytes_eq tube e.1.tube) s.jobs ≡ true → is_among tube (all_tubes s) ≡ true
by-job s tube t = let j = any-in (λ e. bytes_eq tube e.1.tube) s.jobs t in it-is s tube (IsTube.of_job j.0 j.1 (same-bytes tube j.0.1.tube j.2))

pub by-session : (s : QueueState) (tube : List ℕ)
    → list_any (λ e. bytes_eq tube e.1.used || is_among tube e.1.watched) s.sessions ≡ true
    → is_among tube (all_tubes s) ≡ true
by-session s tube t =
    let w = any-in (λ e. bytes_eq tube e.1.used || is_among tube e.1.watched) s.sessions t in
    elim (or_cases (bytes_eq tube w.0.1.used) (is_among tube w.0.1.watched) w.2) as (λ _. is_among tube (all_tubes s) ≡ true) [
      | inl used ↦ it-is s tube (IsTube.used w.0 w.1 (same-bytes tube w.0.1.used used))
      | inr watched ↦ it-is s tube (IsTube.watched w.0 w.1 ((among-member tube w.0.1.watched).0 watched))
    ]

or-right : (a b : Bool) → b ≡ true → (a || b) ≡ true
or-right true b e = refl
or-right false b e = e

some-job : (s : QueueState) (tube : List ℕ) → bytes_eq tube (codes "default") ≡ false
    → list_any (λ e. bytes_eq tube e.1.used || is_among tube e.1.watched) s.sessions ≡ false → IsTube s tube
    → list_any (λ e. bytes_eq tube e.1.tube) s.jobs ≡ true
some-job s tube d n (IsTube.default same) = absurd (true≢false (sym (alike tube (codes "default") same) ∙ d))
some-job s tube d n (IsTube.of_job k i e) = in-any (λ e. bytes_eq tube e.1.tube) s.jobs k i (alike tube k.1.tube e)
some-job s tube d n (IsTube.used w i e) =
    absurd (true≢false (sym (in-any (λ e. bytes_eq tube e.1.used || is_among tube e.1.watched) s.sessions w i
    (ap (λ b. b || is_among tube w.1.watched) (alike tube w.1.used e))) ∙ n))
some-job s tube d n (IsTube.watched w i e) =
    absurd (true≢false (sym (in-any (λ e. bytes_eq tube e.1.used || is_among tube e.1.watched) s.sessions w i
    (or-right (bytes_eq tube w.1.used) (is_among tube w.1.watched) ((among-member tube w.1.watched).1 e))) ∙ n))

pub by-rest : (s : QueueState) (tube : List ℕ) → bytes_eq tube (codes "default") ≡ false
    → list_any (λ e. bytes_eq tube e.1.used || is_among tube e.1.watched) s.sessions ≡ false
    → list_any (λ e. bytes_eq tube e.1.tube) s.jobs ≡ is_among tube (all_tubes s)
by-rest s tube d n =
    elim (list_any (λ e. bytes_eq tube e.1.tube) s.jobs) as (λ b. list_any (λ e. bytes_eq tube e.1.tube) s.jobs ≡ b
    → b ≡ is_among tube (all_tubes s)) [
      | true ↦ λ t. sym (by-job s tube t)
      | false ↦ λ f.
          elim (is_among tube (all_tubes s)) as (λ b. is_among tube (all_tubes s) ≡ b → false ≡ b) [
            | true ↦ λ t. absurd (true≢false (sym (some-job s tube d n ((tubes-all s tube).0 ((among-member tube (all_tubes s)).0 t))) ∙ f))
            | false ↦ λ _. refl
          ] refl
    ] refl

-- a tube that is named here is one that has jobs, or that a session uses or watches
pub named-by : (s : QueueState) (tube : List ℕ) → IsTube s tube → (tube ≡ codes "default")
    ⊎ (list_any (λ e. bytes_eq tube e.1.tube) s.jobs ≡ true)
    ⊎ (list_any (λ e. bytes_eq tube e.1.used || is_among tube e.1.watched) s.sessions ≡ true)
named-by s tube (IsTube.default same) = inl same
named-by s tube (IsTube.of_job k i e) = inr (inl (in-any (λ e. bytes_eq tube e.1.tube) s.jobs k i (alike tube k.1.tube e)))
named-by s tube (IsTube.used w i e) =
    inr (inr (in-any (λ e. bytes_eq tube e.1.used || is_among tube e.1.watched) s.sessions w i
    (ap (λ b. b || is_among tube w.1.watched) (alike tube w.1.used e))))
named-by s tube (IsTube.watched w i e) =
    inr (inr (in-any (λ e. bytes_eq tube e.1.used || is_among tube e.1.watched) s.sessions w i
    (or-right (bytes_eq tube w.1.used) (is_among tube w.1.watched) ((among-member tube w.1.watched).1 e))))

-- Names that are added to `default`: those of the jobs, and those of the sessions

module _ (s : QueueState) (jobs : List (ℕ × Job)) (same : jobs ≡ s.jobs) (first of_jobs names : List (List ℕ)) where
  pub all-named : first ≡ codes "default" ∷ [] →
      ((t : List ℕ) → In t first → In t of_jobs) →
      ((t : List ℕ) → In t of_jobs → In t first ⊎ (has_jobs t jobs ≡ true)) →
      ((t : List ℕ) → has_jobs t jobs ≡ true → In t of_jobs) →
      ((t : List ℕ) → In t of_jobs → In t names) →
      ((t : List ℕ) → In t names → In t of_jobs ⊎ (list_any (λ e. bytes_eq t e.1.used || is_among t e.1.watched) s.sessions ≡ true)) →
      ((t : List ℕ) → list_any (λ e. bytes_eq t e.1.used || is_among t e.1.watched) s.sessions ≡ true → In t names) →
      IsStrictlySortedBy name_cmp names → names ≡ all_tubes s
  all-named is kept only all kept' only' all' sorted =
      same-names names (all_tubes s) sorted (tubes-sorted s)
      (λ t i.
      (among-member t (all_tubes s)).0
      (elim (only' t i) as (λ v. is_among t (all_tubes s) ≡ true) [
        | inr session ↦ by-session s t session
        | inl i ↦ elim (only t i) as (λ v. is_among t (all_tubes s) ≡ true) [
          | inr job ↦ by-job s t (subst (λ js. has_jobs t js ≡ true) same job)
          | inl i ↦ elim (subst (In t) is i) as (λ v. is_among t (all_tubes s)
              ≡ true) [ inl default ↦ it-is s t (IsTube.default default) | inr never ↦ absurd never ]
        ]
      ]))
      (λ t i.
      elim (named-by s t ((tubes-all s t).0 i)) as (λ v. In t names) [
        | inl default ↦ kept' t (kept t (subst (In t) (sym is) (inl default)))
        | inr (inl job) ↦ kept' t (all t (subst (λ js. has_jobs t js ≡ true) (sym same) job))
        | inr (inr session) ↦ all' t session
      ])
