-- Which tubes have jobs, by the shelves.
use Rattle.std.proofs.Common.{◌≡◌, ℕ, Bool, true, false, cond, ◌&&◌, ◌⊎◌, inl, inr, List, [], ◌∷◌, Option, Some, None}
use Rattle.std.proofs.Common.{IfSome, IfNone, is_some, unwrap_or, bytes_eq, Bor, refl, sym, ap, ◌∙◌, true≢false}
use Rattle.std.proofs.lemmas.Bool.{or_cases, or_left, or_right, and_parts}
use Rattle.std.specs.Map.{keys_of, lookup}
use Rattle.std.specs.BTreeMap.{is_at}
use Rattle.object.specs.Lists.{In}
use Rattle.job_store.specs.declared.job.Job.{Job}
use Rattle.bean_words.specs.declared.name.Name.{Name}
use Rattle.job_store.specs.declared.state.State.{State}
use Rattle.job_store.specs.declared.label.Label.{Label}
use Rattle.job_store.specs.declared.shelves.Shelves.{Shelves}
use Rattle.job_store.specs.States.{is_ready, is_delayed, is_buried, is_reserved}
use Rattle.job_store.specs.Least.{IsLeast, NonePasses}
use Rattle.job_store.specs.LookUps.{ready_in, delayed_in, buried_in, reserved_in, is_in, has_jobs}
use Rattle.bean_words.specs.Names.{name_cmp}
use Rattle.job_store.specs.ShelfStates.{ShelfState, bare}
use Rattle.job_store.specs.Shelves.{number, HavePlaces}
use Rattle.bean_words.proofs.naming.NameSets.{at-name}
use Rattle.job_store.proofs.shelving.Shelving.{nothing}
use Rattle.job_store.proofs.readiness.Readiness.{ready-test}

-- A tube that has jobs

has-in : (tube : List ℕ) (jobs : List (ℕ × Job)) (e : ℕ × Job) → In e jobs → is_in tube e ≡ true → has_jobs tube jobs ≡ true
has-in tube [] e i t = absurd i
has-in tube (d ∷ ds) e (inl same) t = or_left (is_in tube d) (has_jobs tube ds) (ap (is_in tube) (sym same) ∙ t)
has-in tube (d ∷ ds) e (inr later) t = or_right (is_in tube d) (has_jobs tube ds) (has-in tube ds e later t)

pub has-one : (tube : List ℕ) (jobs : List (ℕ × Job)) → has_jobs tube jobs ≡ true → (e : ℕ × Job) × In e jobs × (is_in tube e ≡ true)
has-one tube [] t = cc
has-one tube (d ∷ ds) t =
    elim (or_cases (is_in tube d) (has_jobs tube ds) t) as (λ v. (e : ℕ × Job) × In e (d ∷ ds) × (is_in tube e ≡ true)) [
      | inl here ↦ (d, inl refl, here)
      | inr later ↦ let w = has-one tube ds later in (w.0, inr w.1, w.2)
    ]

of-ready : (tube : List ℕ) (e : ℕ × Job) → ready_in (tube ∷ []) e ≡ true → is_in tube e ≡ true
of-ready tube e t = (and_parts (is_ready e.1.state) (bytes_eq tube e.1.tube) (ap (λ (test : ℕ × Job → Bool). test e) (sym (ready-test tube)) ∙ t)).1

of-delayed : (tube : List ℕ) (e : ℕ × Job) → delayed_in tube e ≡ true → is_in tube e ≡ true
of-delayed tube e t = (and_parts (is_delayed e.1.state) (bytes_eq tube e.1.tube) t).1

of-buried : (tube : List ℕ) (e : ℕ × Job) → buried_in tube e ≡ true → is_in tube e ≡ true
of-buried tube e t = (and_parts (is_buried e.1.state) (bytes_eq tube e.1.tube) t).1

of-reserved : (tube : List ℕ) (e : ℕ × Job) → reserved_in tube e ≡ true → is_in tube e ≡ true
of-reserved tube e t = (and_parts (is_reserved e.1.state) (bytes_eq tube e.1.tube) t).1

module _ {A : Type 0} (show : A → ℕ × Job) (tube : List ℕ) (jobs : List (ℕ × Job)) where
  found-has : (test : ℕ × Job → Bool) (by : Job → ℕ) (o : Option A)
      → ((e : ℕ × Job) → test e ≡ true → is_in tube e ≡ true) → IfSome o (λ a. IsLeast test by jobs (show a))
      → is_some o ≡ true → true ≡ has_jobs tube jobs
  found-has test by None of found t = absurd (true≢false (sym t))
  found-has test by (Some a) of found t = sym (has-in tube jobs (show a) found.member (of (show a) found.passes))

  pub ready-has : (by : Job → ℕ) (o : Option A) → IfSome o (λ a. IsLeast (ready_in (tube ∷ [])) by jobs (show a)) → is_some o ≡ true → true ≡ has_jobs tube jobs
  ready-has by o = found-has (ready_in (tube ∷ [])) by o (of-ready tube)

  pub delayed-has : (by : Job → ℕ) (o : Option A) → IfSome o (λ a. IsLeast (delayed_in tube) by jobs (show a)) → is_some o ≡ true → true ≡ has_jobs tube jobs
  delayed-has by o = found-has (delayed_in tube) by o (of-delayed tube)

  pub buried-has : (by : Job → ℕ) (o : Option A) → IfSome o (λ a. IsLeast (buried_in tube) by jobs (show a)) → is_some o ≡ true → true ≡ has_jobs tube jobs
  buried-has by o = found-has (buried_in tube) by o (of-buried tube)

  pub reserved-has : (by : Job → ℕ) (o : Option A) → IfSome o (λ a. IsLeast (reserved_in tube) by jobs (show a)) → is_some o ≡ true → true ≡ has_jobs tube jobs
  reserved-has by o = found-has (reserved_in tube) by o (of-reserved tube)

-- A tube that has none

-- a job is ready, delayed, buried or reserved
in-some-state : (tube : List ℕ) (e : ℕ × Job) → is_in tube e ≡ true → (ready_in (tube ∷ []) e ≡ true)
    ⊎ (delayed_in tube e ≡ true) ⊎ (buried_in tube e ≡ true) ⊎ (reserved_in tube e ≡ true)
in-some-state tube e t =
    let r : ready_in (tube ∷ []) e ≡ (is_ready e.1.state && bytes_eq tube e.1.tube) = ap (λ (test : ℕ × Job → Bool). test e) (ready-test tube) in
    elim e.1.state as (λ s. ready_in (tube ∷ []) e ≡ (is_ready s && bytes_eq tube e.1.tube)
    → (ready_in (tube ∷ []) e ≡ true) ⊎ ((is_delayed s && bytes_eq tube e.1.tube) ≡ true)
    ⊎ ((is_buried s && bytes_eq tube e.1.tube) ≡ true) ⊎ ((is_reserved s && bytes_eq tube e.1.tube) ≡ true)) [
      | State.Ready ↦ λ r. inl (r ∙ t)
      | State.Delayed due ↦ λ r. inr (inl t)
      | State.Buried rank ↦ λ r. inr (inr (inl t))
      | State.Reserved y due ↦ λ r. inr (inr (inr t))
    ] r

pub has-none : (tube : List ℕ) (jobs : List (ℕ × Job)) → NonePasses (ready_in (tube ∷ [])) jobs
    → NonePasses (delayed_in tube) jobs → NonePasses (buried_in tube) jobs → NonePasses (reserved_in tube) jobs
    → false ≡ has_jobs tube jobs
has-none tube jobs ready delayed buried reserved =
    elim (has_jobs tube jobs) as (λ b. has_jobs tube jobs ≡ b → false ≡ b) [
      | false ↦ λ t. refl
      | true ↦ λ t.
          let w = has-one tube jobs t in
          absurd (elim (in-some-state tube w.0 w.2) as (λ v. ⊥) [
            | inl r ↦ ready w.0 w.1 r
            | inr (inl d) ↦ delayed w.0 w.1 d
            | inr (inr (inl b)) ↦ buried w.0 w.1 b
            | inr (inr (inr r)) ↦ reserved w.0 w.1 r
          ])
    ] refl

module _ {A : Type 0} (show : A → ℕ × Job) (tube : List ℕ) (jobs : List (ℕ × Job)) (by : Job → ℕ) where
  -- where nothing is ready, delayed or buried, it has jobs exactly where one is reserved
  pub none-has : (ready delayed buried reserved : Option A) (result : Bool) → result ≡ is_some reserved
      → is_some ready ≡ false → is_some delayed ≡ false → is_some buried ≡ false
      → IfNone ready (NonePasses (ready_in (tube ∷ [])) jobs) → IfNone delayed (NonePasses (delayed_in tube) jobs)
      → IfNone buried (NonePasses (buried_in tube) jobs) → IfNone reserved (NonePasses (reserved_in tube) jobs)
      → IfSome reserved (λ a. IsLeast (reserved_in tube) by jobs (show a)) → result ≡ has_jobs tube jobs
  none-has ready delayed buried None result is r d b nr nd nb nv found =
      is ∙ has-none tube jobs (nothing ready r nr) (nothing delayed d nd) (nothing buried b nb) nv
  none-has ready delayed buried (Some a) result is r d b nr nd nb nv found = is ∙ reserved-has show tube jobs by (Some a) found refl

-- its shelf is there

pub shelf-key : (k : List ℕ) (es : List (List ℕ × ShelfState)) (p : ℕ × ℕ) → In p (unwrap_or (lookup (is_at (name_cmp k)) es) bare).places → In k (keys_of es)
shelf-key k [] p i = absurd i
shelf-key k (e ∷ es) p i =
    elim (is_at (name_cmp k) e.0) as (λ b. is_at (name_cmp k) e.0 ≡ b
    → In p (unwrap_or (cond b (Some e.1) (lookup (is_at (name_cmp k)) es)) bare).places → In k (keys_of (e ∷ es))) [
      | true ↦ λ t i. inl (at-name k e.0 t)
      | false ↦ λ t i. inr (shelf-key k es p i)
    ] refl i

-- the tube has a shelf of one of the four kinds
pub record IsShelved (s : Shelves) (tube : List ℕ) : Type 0 where
  pub one : In tube (keys_of s.ready.shelves.entries) ⊎ In tube (keys_of s.delayed.shelves.entries)
      ⊎ In tube (keys_of s.buried.shelves.entries) ⊎ In tube (keys_of s.reserved.shelves.entries)

pub shelved : (s : Shelves) (jobs : List (ℕ × Job)) (tube : List ℕ) → HavePlaces s jobs → has_jobs tube jobs ≡ true → IsShelved s tube
shelved s jobs tube placed t =
    let name : Bor Name = record { ref_ptr = (0, 0); now = tube } in
    let w = has-one tube jobs t in
    record {
      one = elim (in-some-state tube w.0 w.2) as (λ v. In tube (keys_of s.ready.shelves.entries)
          ⊎ In tube (keys_of s.delayed.shelves.entries) ⊎ In tube (keys_of s.buried.shelves.entries)
          ⊎ In tube (keys_of s.reserved.shelves.entries)) [
            | inl r ↦ inl (shelf-key tube s.ready.shelves.entries _
                (placed w.0 w.1 (Label.Ready name) (number (Label.Ready name) w.0.1, w.0.0)
                (ap (λ (test : ℕ × Job → Bool). test w.0) (sym (ready-test tube)) ∙ r, refl)))
            | inr (inl d) ↦ inr (inl (shelf-key tube s.delayed.shelves.entries _
                (placed w.0 w.1 (Label.Delayed name) (number (Label.Delayed name) w.0.1, w.0.0) (d, refl))))
            | inr (inr (inl b)) ↦ inr (inr
                (inl (shelf-key tube s.buried.shelves.entries _
                (placed w.0 w.1 (Label.Buried name) (number (Label.Buried name) w.0.1, w.0.0) (b, refl)))))
            | inr (inr (inr v)) ↦ inr (inr
                (inr (shelf-key tube s.reserved.shelves.entries _
                (placed w.0 w.1 (Label.Reserved name) (number (Label.Reserved name) w.0.1, w.0.0) (v, refl)))))
          ];
    }
