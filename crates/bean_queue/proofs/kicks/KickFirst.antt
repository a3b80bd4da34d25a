-- A kick makes the first jobs ready.
use Rattle.std.proofs.Common.{◌≡◌, ℕ, zero, suc, Bool, true, false, cond, ◌&&◌, inl, inr, List, [], ◌∷◌, map, None}
use Rattle.std.proofs.Common.{Some, IfSome, ◌==◌, nat_lt, refl, sym, ap, ap₂, ◌∙◌, arith, eq-eqb, ne_eqb, lt-ltb}
use Rattle.std.proofs.Common.{le-ltb}
use Rattle.std.proofs.lemmas.Bool.{cases_eq, cases_lt, cond-true, cond-false, and_parts, and_from}
use Rattle.std.specs.List.{list_any}
use Rattle.object.specs.Lists.{In}
use Rattle.job_store.specs.declared.job.Job.{Job}
use Rattle.job_store.specs.Entries.{Rising}
use Rattle.job_store.specs.EntryLaws.{Rising-altered}
use Rattle.job_store.specs.Least.{ComesBefore, comes_before, IsLeast, least}
use Rattle.job_store.specs.LookUps.{buried_in, delayed_in, due_of_job, rank_of_job, first_buried, first_delayed}
use Rattle.job_store.specs.States.{kicked_job}
use Rattle.job_store.proofs.least.Least.{before, passes_before, least-found, same_entry}
use Rattle.bean_queue.specs.Queue.{QueueState, HasRisingIds, used_by, with_jobs}
use Rattle.bean_queue.specs.Rows.{kicked_option, kicked, kick_row}
use Rattle.bean_queue.specs.Kicking.{passing_before, is_among_first, with_first_ready, after_kick}
use Rattle.bean_queue.specs.TurnLaws.{least-none}
use Rattle.bean_queue.proofs.kicks.KickCount.{made_ready, none-count, one-less, is_some-least}

less_next : (a n : ℕ) → nat_lt (suc a) (suc n) ≡ nat_lt a n
less_next a n =
    elim (cases_lt a n) as (λ v. nat_lt (suc a) (suc n) ≡ nat_lt a n) [
      | inl below ↦ lt-ltb (suc a) (suc n) (omega arith) ∙ sym (lt-ltb a n below)
      | inr above ↦ le-ltb (suc a) (suc n) (omega arith) ∙ sym (le-ltb a n above)
    ]

never_less : (a : ℕ) → nat_lt a 0 ≡ false
never_less a = le-ltb a 0 (omega arith)

and_never : (b c : Bool) → c ≡ false → (b && c) ≡ false
and_never true c e = e
and_never false c e = refl

module _ (test : ℕ × Job → Bool) (unready : (id : ℕ) (job : Job) → test (id, kicked_job job) ≡ false) (by : Job → ℕ) where
  -- what becomes of one of the jobs
  abbrev one_after : ℕ → List (ℕ × Job) → ℕ × Job → ℕ × Job
  one_after n jobs e = (e.0, cond (is_among_first test by n jobs e) (kicked_job e.1) e.1)

  none-after : (jobs ds : List (ℕ × Job)) → map (one_after 0 jobs) ds ≡ ds
  none-after jobs [] = refl
  none-after jobs (d ∷ ds) =
      ap₂ (λ v zs. (d.0, v) ∷ zs) (cond-false (is_among_first test by 0 jobs d) (kicked_job d.1) d.1
      (and_never (test d) (nat_lt (passing_before test by jobs d) 0) (never_less (passing_before test by jobs d))))
      (none-after jobs ds)

  nothing-after : (n : ℕ) (jobs ds : List (ℕ × Job)) → ((e : ℕ × Job) → In e ds → test e ≡ true → ⊥) → map (one_after n jobs) ds ≡ ds
  nothing-after n jobs [] none = refl
  nothing-after n jobs (d ∷ ds) none =
      let fails : test d ≡ false = elim (test d) as (λ b. test d ≡ b → b ≡ false) [ true ↦ λ t. absurd (none d (inl refl) t) | false ↦ λ t. refl ] refl in
      ap₂ (λ v zs. (d.0, v) ∷ zs) (cond-false (is_among_first test by n jobs d) (kicked_job d.1) d.1
      (ap (λ b. b && nat_lt (passing_before test by jobs d) n) fails))
      (nothing-after n jobs ds (λ e i. none e (inr i)))

  module _ (n lo hi : ℕ) (jobs : List (ℕ × Job)) (e : ℕ × Job) (r : Rising lo hi jobs) (first : IsLeast test by jobs e) where
    -- the first one comes before each other one that passes
    first-before : (d : ℕ × Job) → In d jobs → test d ≡ true → (e.0 ≡ d.0 → ⊥) → comes_before by e d ≡ true
    first-before d i t apart =
        let never : ComesBefore by d e → ⊥ = first.least d i t in
        passes_before by e d (let k : (d.0 ≡ e.0 → ⊥) = λ same. apart (sym same) in grind arith)

    -- nothing comes before it
    none-before : passing_before test by jobs e ≡ 0
    none-before =
        none-count (λ d. test d && comes_before by d e) (λ id job. ap (λ b. b && comes_before by (id, kicked_job job) e) (unready id job)) jobs
        (λ d i t. let both = and_parts (test d) (comes_before by d e) t in first.least d i both.0 (before by d e both.1))

    -- and one less comes before each other one, once it is ready
    less-before : (d : ℕ × Job) → In d jobs → test d ≡ true → (e.0 ≡ d.0 → ⊥)
        → passing_before test by jobs d ≡ suc (passing_before test by (made_ready e.0 jobs) d)
    less-before d i t apart =
        one-less (λ c. test c && comes_before by c d)
        (λ id job. ap (λ b. b && comes_before by (id, kicked_job job) d) (unready id job)) lo hi jobs e
        r first.member
        (and_from (test e) (comes_before by e d) first.passes (first-before d i t apart))

    -- so the other ones are among the first n exactly where they were among the first suc n
    same-after : (d : ℕ × Job) → In d jobs → (e.0 ≡ d.0 → ⊥) → is_among_first test by n (made_ready e.0 jobs) d ≡ is_among_first test by (suc n) jobs d
    same-after d i apart =
        elim (test d) as (λ b. test d ≡ b
        → (b && nat_lt (passing_before test by (made_ready e.0 jobs) d) n)
        ≡ (b && nat_lt (passing_before test by jobs d) (suc n))) [
          | true ↦ λ t. sym (ap (λ k. nat_lt k (suc n)) (less-before d i t apart) ∙ less_next (passing_before test by (made_ready e.0 jobs) d) n)
          | false ↦ λ t. refl
        ] refl

    first-after : is_among_first test by (suc n) jobs e ≡ true
    first-after = and_from (test e) (nat_lt (passing_before test by jobs e) (suc n)) first.passes
        (lt-ltb (passing_before test by jobs e) (suc n) (omega (arith, none-before)))

    each-after : (ds : List (ℕ × Job)) → ((d : ℕ × Job) → In d ds → In d jobs)
        → map (one_after n (made_ready e.0 jobs)) (made_ready e.0 ds) ≡ map (one_after (suc n) jobs) ds
    each-after [] within = refl
    each-after (d ∷ ds) within =
        ap₂ (λ v zs. v ∷ zs)
        (elim (cases_eq e.0 d.0) as (λ v. one_after n (made_ready e.0 jobs)
        (d.0, cond (e.0 == d.0) (kicked_job d.1) d.1) ≡ one_after (suc n) jobs d) [
          | inl same ↦
              let it : d ≡ e = same_entry lo hi jobs d e r (within d (inl refl)) first.member (sym same) in
              ap (λ v. one_after n (made_ready e.0 jobs) (d.0, v)) (cond-true (e.0 == d.0) (kicked_job d.1) d.1 (eq-eqb e.0 d.0 same)) ∙
              ap (λ v. (d.0, v)) (cond-false
              (is_among_first test by n (made_ready e.0 jobs) (d.0, kicked_job d.1)) _
              (kicked_job d.1) (ap
              (λ b. b && nat_lt (passing_before test by (made_ready e.0 jobs) (d.0, kicked_job d.1)) n)
              (unready d.0 d.1))) ∙
              sym (ap (λ v. (d.0, v)) (cond-true (is_among_first test by (suc n) jobs d)
              (kicked_job d.1) d.1 (ap (is_among_first test by (suc n) jobs) it ∙ first-after)))
          | inr apart ↦
              ap (λ v. one_after n (made_ready e.0 jobs) (d.0, v)) (cond-false (e.0 == d.0) (kicked_job d.1) d.1 (ne_eqb e.0 d.0 apart)) ∙
              ap (λ b. (d.0, cond b (kicked_job d.1) d.1)) (same-after d (within d (inl refl)) apart)
        ])
        (each-after ds (λ c i. within c (inr i)))

  kicked-first : (n lo hi : ℕ) (jobs : List (ℕ × Job)) → Rising lo hi jobs → (kicked (least test by) n jobs).jobs ≡ with_first_ready test by n jobs
  unfolding kicked
  kicked-first zero lo hi jobs r = sym (none-after jobs jobs)
  kicked-first (suc n) lo hi jobs r =
      elim (least test by jobs) as (λ o. least test by jobs ≡ o → IfSome o (IsLeast test by jobs)
      → (kicked_option (kicked (least test by) n) jobs o).jobs ≡ with_first_ready test by (suc n) jobs) [
        | None ↦ λ none h. sym (nothing-after (suc n) jobs jobs (λ e i t. least-none test by jobs e none i t))
        | Some e ↦ λ some h.
            kicked-first n lo hi (made_ready e.0 jobs) (Rising-altered e.0 kicked_job lo hi jobs r) ∙
            each-after n lo hi jobs e r h jobs (λ d i. i)
      ] refl (least-found test by jobs)

pub kicks-first : (s : QueueState) (x bound : ℕ) → HasRisingIds s → (kick_row s x bound).state ≡ with_jobs s (after_kick (used_by s x) bound s.jobs)
unfolding kick_row
kicks-first s x bound sound =
    ap (with_jobs s)
    (ap (λ b. (kicked (cond b (first_buried (used_by s x)) (first_delayed (used_by s x))) bound s.jobs).jobs)
    (is_some-least (buried_in (used_by s x)) rank_of_job s.jobs) ∙
    elim (list_any (buried_in (used_by s x)) s.jobs) as (λ b.
    (kicked (cond b (first_buried (used_by s x)) (first_delayed (used_by s x))) bound s.jobs).jobs
    ≡ cond b (with_first_ready (buried_in (used_by s x)) rank_of_job bound s.jobs)
    (with_first_ready (delayed_in (used_by s x)) due_of_job bound s.jobs)) [
      | true ↦ kicked-first (buried_in (used_by s x)) (λ id job. refl) rank_of_job bound 1 s.next_id s.jobs sound
      | false ↦ kicked-first (delayed_in (used_by s x)) (λ id job. refl) due_of_job bound 1 s.next_id s.jobs sound
    ])
