-- Sessions that have a job due by a second, which are found.
use Rattle.std.proofs.Common.{◌≡◌, ℕ, ◌+◌, ◌-◌, ◌*◌, ◌^◌, ◌<◌, ◌≤◌, Bool, true, false, cond, ◌&&◌, ◌||◌, ◌==◌, ◌⊎◌, inl}
use Rattle.std.proofs.Common.{inr, List, [], ◌∷◌, ◌++◌, filter, length, Option, Some, None, IfSome, nat_le}
use Rattle.std.proofs.Common.{nat_lt, refl, sym, ap, ap₂, subst, ◌∙◌, arith, eq-eqb, eqb-true, ltb-true, lt-ltb}
use Rattle.std.proofs.Common.{true≢false, append-nil, unwrap_or}
use Rattle.std.proofs.lemmas.Bool.{cases_Bool, cases_order, and_parts, and_from, and_left, and_right, or_cases, or_left, or_right, leb-true}
use Rattle.std.proofs.Math.Bool.{and-true}
use Rattle.object.specs.Lists.{In}
use Rattle.job_store.specs.declared.job.Job.{Job}
use Rattle.job_store.specs.declared.state.State.{State}
use Rattle.job_store.specs.Entries.{Rising}
use Rattle.job_store.specs.EntryLaws.{value_at-In, value_at-below}
use Rattle.job_store.specs.Least.{ComesBefore, comes_before}
use Rattle.job_store.specs.LookUps.{is_after, due_by, due_after, due_of_job, first_due, first_due_after}
use Rattle.job_store.specs.States.{is_due, is_held, due_of}
use Rattle.job_store.proofs.least.Least.{IsAnswer, answer, same_entry}
use Rattle.job_store.proofs.shelving.Shelving.{in-front, in-last}
use Rattle.session_store.specs.declared.session.SessionState.{SessionState}
use Rattle.session_store.specs.Sessions.{is_waiting, new_session}
use Rattle.bean_queue.specs.Holders.{waits_at, waiting_holder, times_noted, has_due, AreHolders, HasHolders, IsSomeHolder, StandAsOften}
use Rattle.bean_queue.specs.Queue.{holds_by}
use Rattle.bean_queue.specs.WaitLaws.{in-append}
use Rattle.bean_queue.proofs.due.Counted.{one_if, chosen-last, chosen-alike, chosen-none, chosen-more}

-- A session has a due job where it is the holder of one

due-time : (second : ℕ) (state : State) → is_due second state ≡ true → nat_le (due_of state) second ≡ true
due-time second State.Ready t = cc
due-time second (State.Delayed due) t = t
due-time second (State.Reserved y due) t = t
due-time second (State.Buried rank) t = cc

pub held-due : (x second : ℕ) (state : State) → (is_held x state && nat_le (due_of state) second) ≡ true → is_due second state ≡ true
held-due x second State.Ready h = cc
held-due x second (State.Delayed due) h = cc
held-due x second (State.Reserved y due) h = (and_parts (is_held x (State.Reserved y due)) (nat_le due second) h).1
held-due x second (State.Buried rank) h = cc

pub holds-one : (x second : ℕ) (jobs : List (ℕ × Job)) (e : ℕ × Job) → In e jobs → due_by second e ≡ true
    → is_held x e.1.state ≡ true → holds_by x second jobs ≡ true
holds-one x second [] e i t h = absurd i
holds-one x second (d ∷ ds) e (inl same) t h =
    or_left (is_held x d.1.state && nat_le (due_of d.1.state) second) (holds_by x second ds)
    (subst (λ (z : ℕ × Job). (is_held x z.1.state && nat_le (due_of z.1.state) second) ≡ true) same
    (and_from (is_held x e.1.state) (nat_le (due_of e.1.state) second) h (due-time second e.1.state t)))
holds-one x second (d ∷ ds) e (inr later) t h =
    or_right (is_held x d.1.state && nat_le (due_of d.1.state) second) (holds_by x second ds) (holds-one x second ds e later t h)

-- the job is due by the second, and the session has it
abbrev pub IsDueOf : ℕ → ℕ → ℕ × Job → Type 0
IsDueOf x second e = (due_by second e ≡ true) × (is_held x e.1.state ≡ true)

one-held : (x second : ℕ) (jobs : List (ℕ × Job)) → holds_by x second jobs ≡ true → (e : ℕ × Job) × In e jobs × IsDueOf x second e
one-held x second [] t = cc
one-held x second (d ∷ ds) t =
    elim (or_cases (is_held x d.1.state && nat_le (due_of d.1.state) second)
    (holds_by x second ds) t) as (λ v. (e : ℕ × Job) × In e (d ∷ ds) × IsDueOf x second e) [
      | inl h ↦ (d, inl refl, (held-due x second d.1.state h, (and_parts (is_held x d.1.state) (nat_le (due_of d.1.state) second) h).0))
      | inr h ↦ let w = one-held x second ds h in (w.0, inr w.1, w.2)
    ]

-- Of two jobs one comes first

before : (d e : ℕ × Job) → comes_before due_of_job d e ≡ true → ComesBefore due_of_job d e
before d e t =
    let a = due_of_job d.1 in
    let b = due_of_job e.1 in
    elim (or_cases (nat_lt a b) (a == b && nat_lt d.0 e.0) t) as (λ v. ComesBefore due_of_job d e) [
      | inl h ↦ inl (ltb-true a b h)
      | inr h ↦ let p = and_parts (a == b) (nat_lt d.0 e.0) h in inr (eqb-true a b p.0, ltb-true d.0 e.0 p.1)
    ]

passes-before : (d e : ℕ × Job) → ComesBefore due_of_job d e → comes_before due_of_job d e ≡ true
passes-before d e (inl h) = or_left (nat_lt (due_of_job d.1) (due_of_job e.1))
    (due_of_job d.1 == due_of_job e.1 && nat_lt d.0 e.0) (lt-ltb (due_of_job d.1) (due_of_job e.1) h)
passes-before d e (inr h) =
    or_right (nat_lt (due_of_job d.1) (due_of_job e.1)) (due_of_job d.1 == due_of_job e.1 && nat_lt d.0 e.0)
    (and_from (due_of_job d.1 == due_of_job e.1) (nat_lt d.0 e.0) (eq-eqb (due_of_job d.1) (due_of_job e.1) h.0) (lt-ltb d.0 e.0 h.1))

before-later : (d e f : ℕ × Job) → ComesBefore due_of_job d e → ComesBefore due_of_job e f → ComesBefore due_of_job d f
before-later d e f (inl a) (inl b) = inl (omega (arith, a, b))
before-later d e f (inl a) (inr b) = let same = b.0 in inl (omega (arith, a, same))
before-later d e f (inr a) (inl b) = let same = a.0 in inl (omega (arith, same, b))
before-later d e f (inr a) (inr b) =
    let one = a.1 in
    let other = b.1 in
    inr (a.0 ∙ b.0, omega (arith, one, other))

never-both : (d e : ℕ × Job) → ComesBefore due_of_job d e → ComesBefore due_of_job e d → ⊥
never-both d e (inl a) (inl b) = absurd (omega (arith, a, b))
never-both d e (inl a) (inr b) = let same = b.0 in absurd (omega (arith, a, same))
never-both d e (inr a) (inl b) = let same = a.0 in absurd (omega (arith, same, b))
never-both d e (inr a) (inr b) =
    let one = a.1 in
    let other = b.1 in
    absurd (omega (arith, one, other))

not-before : (d e : ℕ × Job) → (ComesBefore due_of_job d e → ⊥) → comes_before due_of_job d e ≡ false
not-before d e never =
    elim (cases_Bool (comes_before due_of_job d e)) as (λ v. comes_before due_of_job d e ≡ false) [ inl t ↦ absurd (never (before d e t)) | inr f ↦ f ]

-- Due jobs that are gone over one by one

-- the job comes before the next one, or there is none
abbrev pub is_gone_over : Option (ℕ × Job) → ℕ × Job → Bool
is_gone_over None e = true
is_gone_over (Some n) e = comes_before due_of_job e n

not-gone_over : (next : Option (ℕ × Job)) (e : ℕ × Job) → (IfSome next (ComesBefore due_of_job e) → ⊥) → is_gone_over next e ≡ false
not-gone_over None e never = absurd (never tt)
not-gone_over (Some n) e never = not-before e n never

-- each due job that comes before the next one, or each where there is none, has its holder among these numbers, if it
-- waits
pub record AreNoted (waits : ℕ → Bool) (next : Option (ℕ × Job)) (numbers : List ℕ) (second : ℕ) (jobs : List (ℕ × Job)) : Type 0 where
  pub noted : (x : ℕ) (e : ℕ × Job) → In e jobs → IsDueOf x second e → waits x ≡ true → IfSome next (ComesBefore due_of_job e) → In x numbers
  pub only : (x : ℕ) → In x numbers → (waits x && holds_by x second jobs) ≡ true
  pub often : (x : ℕ) → waits x ≡ true → times_noted x numbers ≡ length (filter (λ e. has_due x second e && is_gone_over next e) jobs)
  pub due : IfSome next (λ n. In n jobs × (due_by second n ≡ true))

-- the holder of a job in this state, where it has one, is noted if it waits
pub record IsNoted (waits : ℕ → Bool) (state : State) (old new : List ℕ) : Type 0 where
  pub keeps : (x : ℕ) → In x old → In x new
  pub holder : (x : ℕ) → waits x ≡ true → is_held x state ≡ true → In x new
  pub only : (x : ℕ) → In x new → In x old ⊎ ((waits x && is_held x state) ≡ true)
  pub often : (x : ℕ) → waits x ≡ true → times_noted x new ≡ times_noted x old + one_if (is_held x state)

noted-holder : (waits : ℕ → Bool) (y due : ℕ) (old new : List ℕ) → waits y ≡ true → new ≡ old ++ y ∷ [] → IsNoted waits (State.Reserved y due) old new
noted-holder waits y due old new w is = record {
  keeps = λ x i. subst (In x) (sym is) (in-front x old (y ∷ []) i);
  holder = λ x v t. subst (In x) (sym is) (subst (λ z. In x (old ++ z ∷ [])) (eqb-true x y t) (in-last x old));
  only = λ x i.
      elim (in-append old (y ∷ []) x (subst (In x) is i)) as (λ v. In x old ⊎ ((waits x && (x == y)) ≡ true)) [
        | inl before ↦ inl before
        | inr it ↦ inr (elim it as (λ v. (waits x && (x == y))
            ≡ true) [
              | inl same ↦ and_from (waits x) (x == y) (ap waits same ∙ w)
                  (eq-eqb x y same)
              | inr none ↦ absurd none
            ])
      ];
  often = λ x v. ap (λ (ns : List ℕ). times_noted x ns) is ∙ chosen-last (λ n. x == n) old y;
}

noted-nobody : (waits : ℕ → Bool) (state : State) (old new : List ℕ) → new ≡ old ++ []
    → ((x : ℕ) → waits x ≡ true → is_held x state ≡ true → ⊥) → IsNoted waits state old new
noted-nobody waits state old new is nobody =
    subst (λ ns. IsNoted waits state old ns) (sym (is ∙ append-nil old))
    (record {
      keeps = λ x i. i;
      holder = λ x w t. absurd (nobody x w t);
      only = λ x i. inl i;
      often = λ x w.
          elim (cases_Bool (is_held x state)) as (λ v. times_noted x old ≡ times_noted x old + one_if (is_held x state)) [
            | inl t ↦ absurd (nobody x w t)
            | inr f ↦ let none : one_if (is_held x state) ≡ 0 = ap (λ (b : Bool). one_if b) f in omega (arith, none)
          ];
    })

-- the holder that waits was noted
pub noted-by : (sessions : List (ℕ × SessionState)) (state : State) (old new : List ℕ)
    → new ≡ old ++ waiting_holder sessions state → IsNoted (waits_at sessions) state old new
noted-by sessions State.Ready old new is = noted-nobody (waits_at sessions) State.Ready old new is (λ x w t. cc)
noted-by sessions (State.Delayed due) old new is = noted-nobody (waits_at sessions) (State.Delayed due) old new is (λ x w t. cc)
noted-by sessions (State.Buried rank) old new is = noted-nobody (waits_at sessions) (State.Buried rank) old new is (λ x w t. cc)
noted-by sessions (State.Reserved y due) old new is =
    elim (cases_Bool (waits_at sessions y)) as (λ v. IsNoted (waits_at sessions) (State.Reserved y due) old new) [
      | inl w ↦ noted-holder (waits_at sessions) y due old new w (is ∙ ap (λ b. old ++ cond b (y ∷ []) []) w)
      | inr idle ↦
          noted-nobody (waits_at sessions) (State.Reserved y due) old new (is ∙ ap (λ b. old ++ cond b (y ∷ []) []) idle)
          (λ x w t. true≢false (sym w ∙ ap (waits_at sessions) (eqb-true x y t) ∙ idle))
    ]

-- where a due job has a holder that waits, there is one
pub some-holder : (second : ℕ) (n : ℕ × Job) (jobs : List (ℕ × Job)) (sessions : List (ℕ × SessionState)) → In n jobs
    × (due_by second n ≡ true) → (x : ℕ) × In x (waiting_holder sessions n.1.state) → IsSomeHolder second jobs sessions
some-holder second n jobs sessions due w =
    elim ((noted-by sessions n.1.state [] (waiting_holder sessions n.1.state) refl).only w.0 w.1) as (λ v. IsSomeHolder second jobs sessions) [
      | inl none ↦ absurd none
      | inr both ↦
          let parts = and_parts (waits_at sessions w.0) (is_held w.0 n.1.state) both in
          (w.0, and_from (waits_at sessions w.0) (holds_by w.0 second jobs) parts.0 (holds-one w.0 second jobs n due.0 due.1 parts.1))
    ]

-- nothing that passes comes before the answer
never-sooner : (test : ℕ × Job → Bool) (jobs : List (ℕ × Job)) (next : Option (ℕ × Job)) (e : ℕ × Job)
    → IsAnswer test due_of_job jobs next → In e jobs → test e ≡ true → IfSome next (ComesBefore due_of_job e) → ⊥
never-sooner test jobs None e none i t b = none e i t
never-sooner test jobs (Some n) e best i t b = best.least e i t b

answer-passes : (test : ℕ × Job → Bool) (jobs : List (ℕ × Job)) (next : Option (ℕ × Job))
    → IsAnswer test due_of_job jobs next → IfSome next (λ n. In n jobs × (test n ≡ true))
answer-passes test jobs None none = tt
answer-passes test jobs (Some n) best = (best.member, best.passes)

pub noted-first : (waits : ℕ → Bool) (next : Option (ℕ × Job)) (second : ℕ) (jobs : List (ℕ × Job))
    → next ≡ first_due second jobs → AreNoted waits next [] second jobs
noted-first waits next second jobs is =
    let it : IsAnswer (due_by second) due_of_job jobs next =
    subst (IsAnswer (due_by second) due_of_job jobs) (sym is) (answer (due_by second) due_of_job jobs) in
    record {
      noted = λ x e i d w before. absurd (never-sooner (due_by second) jobs next e it i d.0 before);
      only = λ x i. absurd i;
      often = λ x w.
          sym (ap length (chosen-none (λ e. has_due x second e && is_gone_over next e) jobs (λ e i.
          elim (cases_Bool (has_due x second e)) as (λ v. (has_due x second e && is_gone_over next e) ≡ false) [
            | inl t ↦ and_right (has_due x second e) (is_gone_over next e)
                (not-gone_over next e (never-sooner (due_by second) jobs next e it i (held-due x second e.1.state t)))
            | inr f ↦ and_left (has_due x second e) (is_gone_over next e) f
          ])));
      due = answer-passes (due_by second) jobs next it;
    }

-- of two due jobs one comes first, or they are the same
which : (d n : ℕ × Job) → ComesBefore due_of_job d n ⊎ ((d.0 ≡ n.0) ⊎ (is_after (due_of_job n.1, n.0) (due_of_job d.1, d.0) ≡ true))
which d n =
    let a = due_of_job d.1 in
    let b = due_of_job n.1 in
    let later : (b < a) ⊎ ((b ≡ a) × (n.0 < d.0)) → is_after (b, n.0) (a, d.0) ≡ true = λ v.
    elim v as (λ v. (nat_lt b a || (b == a && nat_lt n.0 d.0)) ≡ true) [
      | inl h ↦ or_left (nat_lt b a) (b == a && nat_lt n.0 d.0) (lt-ltb b a h)
      | inr h ↦ or_right (nat_lt b a) (b == a && nat_lt n.0 d.0) (and_from (b == a) (nat_lt n.0 d.0) (eq-eqb b a h.0) (lt-ltb n.0 d.0 h.1))
    ] in
    elim (cases_order a b) as (λ v. ComesBefore due_of_job d n ⊎ ((d.0 ≡ n.0) ⊎ (is_after (b, n.0) (a, d.0) ≡ true))) [
      | inl same ↦
          elim (cases_order d.0 n.0) as (λ v. ComesBefore due_of_job d n ⊎ ((d.0 ≡ n.0) ⊎ (is_after (b, n.0) (a, d.0) ≡ true))) [
            | inl id ↦ inr (inl id)
            | inr (inl below) ↦ inl (inr (same, below))
            | inr (inr above) ↦ inr (inr (later (inr (sym same, above))))
          ]
      | inr (inl below) ↦ inl (inl below)
      | inr (inr above) ↦ inr (inr (later (inl above)))
    ]

still-due : (second : ℕ) (place : ℕ × ℕ) (jobs : List (ℕ × Job)) (next : Option (ℕ × Job))
    → IfSome next (λ n. In n jobs × (due_after second place n ≡ true))
    → IfSome next (λ n. In n jobs × (due_by second n ≡ true))
still-due second place jobs None it = tt
still-due second place jobs (Some n) it = (it.0, (and_parts (due_by second n) (is_after place (due_of_job n.1, n.0)) it.1).0)

-- what comes before the next job has been passed after it, too
still-gone_over : (second : ℕ) (n : ℕ × Job) (next : Option (ℕ × Job)) (jobs : List (ℕ × Job)) (e : ℕ × Job)
    → IfSome next (λ m. In m jobs × (due_after second (due_of_job n.1, n.0) m ≡ true)) → ComesBefore due_of_job e n
    → is_gone_over next e ≡ true
still-gone_over second n None jobs e it sooner = refl
still-gone_over second n (Some m) jobs e it sooner =
    passes-before e m (before-later e n m sooner (before n m (and_parts (due_by second m) (is_after (due_of_job n.1, n.0) (due_of_job m.1, m.0)) it.1).1))

-- a due job that isn't the next one has been passed after it exactly where it was before
gone_over-same : (second : ℕ) (n : ℕ × Job) (next : Option (ℕ × Job)) (jobs : List (ℕ × Job)) (e : ℕ × Job)
    → IsAnswer (due_after second (due_of_job n.1, n.0)) due_of_job jobs next → In e jobs → due_by second e ≡ true
    → (e.0 ≡ n.0 → ⊥) → is_gone_over next e ≡ comes_before due_of_job e n
gone_over-same second n next jobs e it i due apart =
    let place : ℕ × ℕ = (due_of_job n.1, n.0) in
    elim (which e n) as (λ v. is_gone_over next e ≡ comes_before due_of_job e n) [
      | inl sooner ↦ still-gone_over second n next jobs e (answer-passes (due_after second place) jobs next it) sooner ∙ sym (passes-before e n sooner)
      | inr (inl same) ↦ absurd (apart same)
      | inr (inr later) ↦
          not-gone_over next e (never-sooner (due_after second place) jobs next e it i
          (and_from (due_by second e) (is_after place (due_of_job e.1, e.0)) due later)) ∙
          sym (not-before e n (never-both n e (before n e later)))
    ]

-- and the next one itself has been passed then
gone_over-itself : (second : ℕ) (n : ℕ × Job) (next : Option (ℕ × Job)) (jobs : List (ℕ × Job))
    → IfSome next (λ m. In m jobs × (due_after second (due_of_job n.1, n.0) m ≡ true)) → is_gone_over next n ≡ true
gone_over-itself second n None jobs it = refl
gone_over-itself second n (Some m) jobs it = (and_parts (due_by second m) (is_after (due_of_job n.1, n.0) (due_of_job m.1, m.0)) it.1).1

both-true : (b : Bool) → ((b && true) && true) ≡ b
both-true true = refl
both-true false = refl

one-more : (x second hi : ℕ) (n : ℕ × Job) (next : Option (ℕ × Job)) (jobs : List (ℕ × Job)) → Rising 0 hi jobs
    → In n jobs → due_by second n ≡ true → IsAnswer (due_after second (due_of_job n.1, n.0)) due_of_job jobs next
    → length (filter (λ e. has_due x second e && is_gone_over next e) jobs)
    ≡ length (filter (λ e. has_due x second e && comes_before due_of_job e n) jobs) + one_if (is_held x n.1.state)
one-more x second hi n next jobs r there due it =
    let own : (has_due x second n && is_gone_over next n) ≡ is_held x n.1.state =
    ap₂ (λ (a b : Bool). (is_held x n.1.state && a) && b) (due-time second n.1.state due)
    (gone_over-itself second n next jobs (answer-passes (due_after second (due_of_job n.1, n.0)) jobs next it)) ∙
    both-true (is_held x n.1.state) in
    chosen-more (λ e. has_due x second e && is_gone_over next e) (λ e. has_due x second e && comes_before due_of_job e n) n 0 hi jobs r there
    (λ e i apart.
    elim (cases_Bool (has_due x second e)) as (λ v. (has_due x second e && is_gone_over next e) ≡ (has_due x second e && comes_before due_of_job e n)) [
      | inl t ↦ ap (λ (b : Bool). has_due x second e && b) (gone_over-same second n next jobs e it i (held-due x second e.1.state t) apart)
      | inr f ↦ and_left (has_due x second e) (is_gone_over next e) f ∙ sym (and_left (has_due x second e) (comes_before due_of_job e n) f)
    ])
    (and_right (has_due x second n) (comes_before due_of_job n n) (not-before n n (λ own. never-both n n own own))) ∙
    ap (λ (b : Bool). length (filter (λ e. has_due x second e && comes_before due_of_job e n) jobs) + one_if b) own

pub noted-next : (waits : ℕ → Bool) (n : ℕ × Job) (next : Option (ℕ × Job)) (numbers numbers' : List ℕ) (second hi : ℕ)
    (jobs : List (ℕ × Job)) → Rising 0 hi jobs → AreNoted waits (Some n) numbers second jobs
    → IsNoted waits n.1.state numbers numbers' → next ≡ first_due_after second (due_of_job n.1, n.0) jobs
    → AreNoted waits next numbers' second jobs
noted-next waits n next numbers numbers' second hi jobs r were more is =
    let place : ℕ × ℕ = (due_of_job n.1, n.0) in
    let it : IsAnswer (due_after second place) due_of_job jobs next =
    subst (IsAnswer (due_after second place) due_of_job jobs) (sym is)
    (answer (due_after second place) due_of_job jobs) in
    record {
      noted = λ x e i d w before.
          elim (which e n) as (λ v. In x numbers') [
            | inl sooner ↦ more.keeps x (were.noted x e i d w sooner)
            | inr (inl same) ↦ more.holder x w (subst (λ (z : ℕ × Job). is_held x z.1.state ≡ true) (same_entry 0 hi jobs e n r i were.due.0 same) d.1)
            | inr (inr later) ↦ absurd (never-sooner (due_after second place) jobs next e it i
                (and_from (due_by second e) (is_after place (due_of_job e.1, e.0)) d.0 later) before)
          ];
      only = λ x i.
          elim (more.only x i) as (λ v. (waits x && holds_by x second jobs) ≡ true) [
            | inl old ↦ were.only x old
            | inr held ↦
                let both = and_parts (waits x) (is_held x n.1.state) held in
                and_from (waits x) (holds_by x second jobs) both.0 (holds-one x second jobs n were.due.0 were.due.1 both.1)
          ];
      often = λ x w.
          more.often x w ∙
          ap (λ (k : ℕ). k + one_if (is_held x n.1.state)) (were.often x w) ∙
          sym (one-more x second hi n next jobs r were.due.0 were.due.1 it);
      due = still-due second place jobs next (answer-passes (due_after second place) jobs next it);
    }

pub noted-all : (next : Option (ℕ × Job)) (numbers : List ℕ) (second : ℕ) (jobs : List (ℕ × Job))
    (sessions : List (ℕ × SessionState)) → next ≡ None → AreNoted (waits_at sessions) next numbers second jobs
    → AreHolders numbers second jobs sessions
noted-all next numbers second jobs sessions end were x = (
  were.only x,
  λ t.
      let both = and_parts (waits_at sessions x) (holds_by x second jobs) t in
      let w = one-held x second jobs both.1 in
      were.noted x w.0 w.1 w.2 both.0 (subst (λ o. IfSome o (ComesBefore due_of_job w.0)) (sym end) tt),
)

pub noted-often : (next : Option (ℕ × Job)) (numbers : List ℕ) (second : ℕ) (jobs : List (ℕ × Job))
    (sessions : List (ℕ × SessionState)) → next ≡ None → AreNoted (waits_at sessions) next numbers second jobs
    → StandAsOften numbers second jobs sessions
noted-often next numbers second jobs sessions end were x w =
    were.often x w ∙
    ap length (chosen-alike (λ e. has_due x second e && is_gone_over next e) (has_due x second) jobs
    (λ e i. ap (λ (o : Option (ℕ × Job)). has_due x second e && is_gone_over o e) end ∙ and-true
    (has_due x second e)))

-- how far the next job is from the last that may be due
abbrev pub far : ℕ → Option (ℕ × Job) → ℕ
far second None = 0
far second (Some n) = 1 + (second - due_of n.1.state) * 2 ^ 64 + (2 ^ 64 - n.0)

pub nearer : (waits : ℕ → Bool) (n : ℕ × Job) (next : Option (ℕ × Job)) (numbers : List ℕ) (second : ℕ)
    (jobs : List (ℕ × Job)) → Rising 0 (2 ^ 64) jobs → AreNoted waits (Some n) numbers second jobs
    → next ≡ first_due_after second (due_of_job n.1, n.0) jobs → far second next < far second (Some n)
nearer waits n next numbers second jobs r were is =
    let fits : n.0 < 2 ^ 64 = value_at-below 0 (2 ^ 64) n.0 jobs n.1 r (value_at-In 0 (2 ^ 64) jobs n r were.due.0) in
    let place : ℕ × ℕ = (due_of_job n.1, n.0) in
    let it : IfSome next (λ m. In m jobs × (due_after second place m ≡ true)) =
    answer-passes (due_after second place) jobs next
    (subst (IsAnswer (due_after second place) due_of_job jobs) (sym is)
    (answer (due_after second place) due_of_job jobs)) in
    elim next as (λ o. IfSome o (λ m. In m jobs × (due_after second place m ≡ true)) → far second o < far second (Some n)) [
      | None ↦ λ it. omega arith
      | Some m ↦ λ it.
          let both = and_parts (due_by second m) (is_after place (due_of_job m.1, m.0)) it.1 in
          let a : due_of n.1.state ≤ second = leb-true (due_of n.1.state) second (due-time second n.1.state were.due.1) in
          let b : due_of m.1.state ≤ second = leb-true (due_of m.1.state) second (due-time second m.1.state both.0) in
          elim (or_cases (nat_lt (due_of n.1.state) (due_of m.1.state))
          (due_of n.1.state == due_of m.1.state && nat_lt n.0 m.0) both.1) as (λ v. far second (Some m) < far second
          (Some n)) [
            | inl h ↦ let later : due_of n.1.state < due_of m.1.state = ltb-true (due_of n.1.state) (due_of m.1.state) h in omega arith
            | inr h ↦
                let p = and_parts (due_of n.1.state == due_of m.1.state) (nat_lt n.0 m.0) h in
                let same : due_of n.1.state ≡ due_of m.1.state = eqb-true (due_of n.1.state) (due_of m.1.state) p.0 in
                let later : n.0 < m.0 = ltb-true n.0 m.0 p.1 in
                omega arith
          ]
    ] it

-- a session that waits and has such a job is among those
pub has-holders : (numbers : List ℕ) (second hi : ℕ) (jobs : List (ℕ × Job)) (sessions : List (ℕ × SessionState))
    → Rising 0 hi sessions → AreHolders numbers second jobs sessions → HasHolders numbers second jobs sessions
has-holders numbers second hi jobs sessions r holders w i waits holds =
    let seen : waits_at sessions w.0 ≡ is_waiting w.1 = ap (λ o. is_waiting (unwrap_or o new_session)) (value_at-In 0 hi sessions w r i) in
    (holders w.0).1 (and_from (waits_at sessions w.0) (holds_by w.0 second jobs) (seen ∙ waits) holds)
