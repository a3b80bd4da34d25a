-- The most urgent of the ready jobs whose tubes have a taker is the next job.
use Rattle.std.proofs.Common.{◌≡◌, ℕ, Bool, true, false, cond, not, ◌&&◌, inl, inr, List, [], ◌∷◌, Option, Some, None}
use Rattle.std.proofs.Common.{IfSome, IfNone, filter_map, is_some, refl, sym, ap, subst, ◌∙◌}
use Rattle.std.proofs.lemmas.Bool.{cond-true, and_parts, and_from}
use Rattle.object.specs.Lists.{In}
use Rattle.job_store.specs.declared.job.Job.{Job}
use Rattle.job_store.specs.Entries.{Rising}
use Rattle.job_store.specs.Least.{ComesBefore, IsLeast, NonePasses, least}
use Rattle.job_store.specs.LookUps.{is_among, ready_in, best_ready, pri_of_job, not_paused}
use Rattle.job_store.specs.States.{is_ready}
use Rattle.job_store.proofs.least.Least.{least-found, least-none as nothing-least, same_entry, among-member, never_between, same_key}
use Rattle.session_store.specs.declared.session.SessionState.{SessionState}
use Rattle.session_store.specs.Sessions.{first_waiting, is_waiting, wait_rank, with_wait_ended}
use Rattle.session_store.proofs.Found.{mapped-in, mapped-from}
use Rattle.bean_queue.specs.Queue.{QueueState, paused_tubes}
use Rattle.bean_queue.specs.TurnLaws.{least-none, none-least, first_waiting-in}
use Rattle.bean_queue.specs.Turns.{wanted, next_job}
use Rattle.bean_queue.specs.Woken.{Covers, has_taker}
use Rattle.bean_queue.specs.Offers.{is_takable, CoverTakable}
use Rattle.bean_queue.proofs.best.Paused.{open-watched, watched-open}
use Rattle.bean_queue.proofs.calm.Calm.{ended-calmer}

-- Two lists with one least

module _ {X : Type 0} (by : X → ℕ) where
  -- for each entry of the one list there is one of the other that does not come after it
  abbrev IsMatched : List (ℕ × X) → List (ℕ × X) → Type 0
  IsMatched cs ds = (c : ℕ × X) → In c cs → (d : ℕ × X) × In d ds × (ComesBefore by c d → ⊥)

  matched-least : (es cs ds : List (ℕ × X)) (lo hi : ℕ) → Rising lo hi es → ((c : ℕ × X) → In c cs → In c es)
      → ((d : ℕ × X) → In d ds → In d es) → IsMatched cs ds → IsMatched ds cs
      → least (λ e. true) by cs ≡ least (λ e. true) by ds
  matched-least es cs ds lo hi r c-in d-in forth back =
      elim (least (λ e. true) by cs) as (λ o. least (λ e. true) by cs ≡ o → IfSome o (IsLeast (λ e. true) by cs) → o ≡ least (λ e. true) by ds) [
        | None ↦ λ none _.
            elim (least (λ e. true) by ds) as (λ o. IfSome o (IsLeast (λ e. true) by ds) → None ≡ o) [
              | None ↦ λ _. refl
              | Some d ↦ λ found. absurd (least-none (λ e. true) by cs (back d found.member).0 none (back d found.member).1 refl)
            ] (least-found (λ e. true) by ds)
        | Some c ↦ λ some best.
            elim (least (λ e. true) by ds) as (λ o. least (λ e. true) by ds ≡ o → IfSome o (IsLeast (λ e. true) by ds) → Some c ≡ o) [
              | None ↦ λ none _. absurd (least-none (λ e. true) by ds (forth c best.member).0 none (forth c best.member).1 refl)
              | Some d ↦ λ _ found.
                  let f = forth c best.member in
                  let b = back d found.member in
                  ap Some
                  (same_entry lo hi es c d r (c-in c best.member) (d-in d found.member)
                  (same_key by c d (never_between by c d f.0 (found.least f.0 f.1 refl) f.2) (never_between by d c b.0 (best.least b.0 b.1 refl) b.2)))
            ] refl (least-found (λ e. true) by ds)
      ] refl (least-found (λ e. true) by cs)

-- What an option is made of

module _ {X : Type 0} where
  pub chosen : (b : Bool) (o : Option X) (x : X) → cond b o None ≡ Some x → (b ≡ true) × (o ≡ Some x)
  chosen true o x e = (refl, e)
  chosen false o x e = cc

  the_some : (o : Option X) → is_some o ≡ true → (x : X) × (o ≡ Some x)
  the_some None e = cc
  the_some (Some x) e = (x, refl)

-- What is least among the ready jobs of some tubes

pub best_is : (tubes : List (List ℕ)) (jobs : List (ℕ × Job)) (c : ℕ × Job) → best_ready tubes jobs ≡ Some c → IsLeast (ready_in tubes) pri_of_job jobs c
best_is tubes jobs c e = subst (λ o. IfSome o (IsLeast (ready_in tubes) pri_of_job jobs)) e (least-found (ready_in tubes) pri_of_job jobs)

-- a ready job of these tubes does not come before the best one
pub best_for : (tubes : List (List ℕ)) (jobs : List (ℕ × Job)) (c : ℕ × Job) → In c jobs → ready_in tubes c ≡ true
    → (d : ℕ × Job) × (best_ready tubes jobs ≡ Some d) × (ComesBefore pri_of_job c d → ⊥)
best_for tubes jobs c there passes =
    elim (best_ready tubes jobs) as (λ o. best_ready tubes jobs ≡ o
    → IfSome o (IsLeast (ready_in tubes) pri_of_job jobs) → (d : ℕ × Job) × (o ≡ Some d)
    × (ComesBefore pri_of_job c d → ⊥)) [
      | None ↦ λ none _. absurd (least-none (ready_in tubes) pri_of_job jobs c none there passes)
      | Some d ↦ λ _ best. (d, refl, best.least c there passes)
    ] refl (least-found (ready_in tubes) pri_of_job jobs)

-- a session that waits for the tube is found
waits_for : (sessions : List (ℕ × SessionState)) (tube : List ℕ) (w : ℕ × SessionState) → In w sessions
    → is_waiting w.1 ≡ true → is_among tube w.1.watched ≡ true
    → is_some (first_waiting (λ e. is_among tube e.1.watched) sessions) ≡ true
waits_for sessions tube w there waits watches =
    elim (first_waiting (λ e. is_among tube e.1.watched) sessions) as (λ o. first_waiting (λ e. is_among tube e.1.watched) sessions ≡ o → is_some o ≡ true) [
      | None ↦ λ none. absurd (least-none
          (λ e. is_waiting e.1 && is_among tube e.1.watched) wait_rank sessions w none there
          (and_from (is_waiting w.1) (is_among tube w.1.watched) waits watches))
      | Some v ↦ λ _. refl
    ] refl

-- What is wanted, and whose tube has a taker

-- what a waiting session wants most
record IsBestOf (s : QueueState) (c : ℕ × Job) (w : ℕ × SessionState) : Type 0 where
  pub known : In w s.sessions
  pub waits : is_waiting w.1 ≡ true
  pub there : In c s.jobs
  pub ready : is_ready c.1.state ≡ true
  pub unpaused : is_among c.1.tube (paused_tubes s) ≡ false
  pub watches : is_among c.1.tube w.1.watched ≡ true

wanted_by : (s : QueueState) (c : ℕ × Job) → In c (filter_map (wanted (paused_tubes s) s.jobs) s.sessions) → (w : ℕ × SessionState) × IsBestOf s c w
wanted_by s c i =
    let from = mapped-from (wanted (paused_tubes s) s.jobs) c s.sessions i in
    let tubes = not_paused (paused_tubes s) from.0.1.watched in
    let both = chosen (is_waiting from.0.1) (best_ready tubes s.jobs) c from.2 in
    let best = best_is tubes s.jobs c both.1 in
    let parts = and_parts (is_ready c.1.state) (is_among c.1.tube tubes) best.passes in
    let clear = open-watched (paused_tubes s) from.0.1.watched c.1.tube parts.1 in
    (from.0, record { known = from.1; waits = both.0; there = best.member; ready = parts.0; unpaused = clear.1; watches = clear.0 })

pub in_one : (tube t : List ℕ) → is_among t (tube ∷ []) ≡ true → t ≡ tube
in_one tube t e = elim ((among-member t (tube ∷ [])).0 e) as (λ v. t ≡ tube) [ inl same ↦ same | inr never ↦ absurd never ]

not-so : (b : Bool) → not b ≡ true → b ≡ false
not-so true e = sym e
not-so false e = refl

-- the tube of a job that is wanted has a taker
has-taker : (s : QueueState) (c : ℕ × Job) (w : ℕ × SessionState) → IsBestOf s c w → has_taker (paused_tubes s) s.sessions c.1.tube ≡ true
has-taker s c w b =
    and_from (not (is_among c.1.tube (paused_tubes s)))
    (is_some (first_waiting (λ e. is_among c.1.tube e.1.watched) s.sessions))
    (ap not b.unpaused)
    (waits_for s.sessions c.1.tube w b.known b.waits b.watches)

wanted-takable : (s : QueueState) (c : ℕ × Job) (w : ℕ × SessionState) → IsBestOf s c w
    → is_takable (has_taker (paused_tubes s) s.sessions) c ≡ true
wanted-takable s c w b = and_from (is_ready c.1.state) (has_taker (paused_tubes s) s.sessions c.1.tube) b.ready (has-taker s c w b)

-- who takes from a tube that has a taker
pub taker : (paused : List (List ℕ)) (sessions : List (ℕ × SessionState)) (tube : List ℕ) → has_taker paused sessions tube ≡ true
    → (w : ℕ × SessionState) × In w sessions × (is_waiting w.1 ≡ true) × (is_among tube w.1.watched ≡ true)
taker paused sessions tube t =
    let tests = and_parts (not (is_among tube paused)) (is_some (first_waiting (λ e. is_among tube e.1.watched) sessions)) t in
    let first = the_some (first_waiting (λ e. is_among tube e.1.watched) sessions) tests.1 in
    let w = subst (λ o. IfSome o (λ w. In w sessions × (is_waiting w.1 ≡ true) × (is_among tube w.1.watched ≡ true)))
    first.1 (first_waiting-in (λ e. is_among tube e.1.watched) sessions) in
    (first.0, w.0, w.1, w.2)

-- a tube that has one is not paused
pub taker-open : (paused : List (List ℕ)) (sessions : List (ℕ × SessionState)) (tube : List ℕ) → has_taker paused sessions tube ≡ true
    → is_among tube paused ≡ false
taker-open paused sessions tube t =
    not-so _ (and_parts (not (is_among tube paused)) (is_some (first_waiting (λ e. is_among tube e.1.watched) sessions)) t).0

takable-by : (s : QueueState) (c : ℕ × Job) → In c s.jobs → is_takable (has_taker (paused_tubes s) s.sessions) c ≡ true
    → (w : ℕ × SessionState) × IsBestOf s c w
takable-by s c there t =
    let tests = and_parts (is_ready c.1.state) (has_taker (paused_tubes s) s.sessions c.1.tube) t in
    let w = taker (paused_tubes s) s.sessions c.1.tube tests.1 in (
      w.0,
      record {
        known = w.1;
        waits = w.2;
        there = there;
        ready = tests.0;
        unpaused = taker-open (paused_tubes s) s.sessions c.1.tube tests.1;
        watches = w.3;
      },
    )

-- tubes that cover what is wanted have each job that is takable
pub covers-takable : (tubes : List (List ℕ)) (s : QueueState) → Covers tubes s
    → CoverTakable tubes (has_taker (paused_tubes s) s.sessions) s.jobs
covers-takable tubes s covers j there t =
    let w = takable-by s j there t in
    covers j (record {
      there = there;
      ready = w.1.ready;
      unpaused = w.1.unpaused;
      watched = (w.0, w.1.known, w.1.waits, w.1.watches);
    })

-- what is wanted most is takable, and nothing that is takable comes before what is wanted most
one-takable : (s : QueueState) (hi : ℕ) (c : ℕ × Job) → Rising 0 hi s.jobs
    → IsLeast (is_takable (has_taker (paused_tubes s) s.sessions)) pri_of_job s.jobs c
    → Some c ≡ next_job s
one-takable s hi c r best =
    let w = takable-by s c best.member best.passes in
    matched-least pri_of_job s.jobs (c ∷ []) (filter_map (wanted (paused_tubes s) s.jobs) s.sessions) 0 hi r
    (λ d i. elim i as (λ _. In d s.jobs) [ inl same ↦ subst (λ e. In e s.jobs) (sym same) best.member | inr never ↦ absurd never ])
    (λ d i. (wanted_by s d i).1.there)
    (λ d i.
    let watched = not_paused (paused_tubes s) w.0.1.watched in
    let most = best_for watched s.jobs c best.member
    (and_from (is_ready c.1.state) (is_among c.1.tube watched) w.1.ready
    (watched-open (paused_tubes s) w.0.1.watched c.1.tube w.1.watches w.1.unpaused)) in (
      most.0,
      mapped-in (wanted (paused_tubes s) s.jobs) w.0 most.0 s.sessions w.1.known
          (cond-true (is_waiting w.0.1) (best_ready watched s.jobs) None w.1.waits ∙ most.1),
      λ before. elim i as (λ _. ⊥) [
        | inl same ↦ most.2 (subst (λ e. ComesBefore pri_of_job e most.0) same before)
        | inr never ↦ never
      ],
    ))
    (λ d i.
    let v = wanted_by s d i in
    (c, inl refl, best.least d v.1.there (wanted-takable s d v.0 v.1)))

none-takable : (s : QueueState) → NonePasses (is_takable (has_taker (paused_tubes s) s.sessions)) s.jobs → None ≡ next_job s
none-takable s none =
    sym (none-least (λ e. true) pri_of_job (filter_map (wanted (paused_tubes s) s.jobs) s.sessions)
    (λ d i _. let v = wanted_by s d i in none d v.1.there (wanted-takable s d v.0 v.1)))

-- the most urgent job that is takable is the next one
pub next-takable : (s : QueueState) (hi : ℕ) → Rising 0 hi s.jobs
    → least (is_takable (has_taker (paused_tubes s) s.sessions)) pri_of_job s.jobs ≡ next_job s
next-takable s hi r =
    elim (least (is_takable (has_taker (paused_tubes s) s.sessions)) pri_of_job s.jobs) as (λ o. IfSome o
    (IsLeast (is_takable (has_taker (paused_tubes s) s.sessions)) pri_of_job s.jobs)
    → IfNone o (NonePasses (is_takable (has_taker (paused_tubes s) s.sessions)) s.jobs) → o ≡ next_job s) [
      | None ↦ λ _ none. none-takable s none
      | Some c ↦ λ best _. one-takable s hi c r best
    ] (least-found (is_takable (has_taker (paused_tubes s) s.sessions)) pri_of_job s.jobs)
    (nothing-least (is_takable (has_taker (paused_tubes s) s.sessions)) pri_of_job s.jobs)

-- a tube that has a taker when a wait has ended had one before
pub taker-before : (paused : List (List ℕ)) (x : ℕ) (sessions : List (ℕ × SessionState)) (tube : List ℕ)
    → has_taker paused (with_wait_ended x sessions) tube ≡ true → has_taker paused sessions tube ≡ true
taker-before paused x sessions tube t =
    let w = taker paused (with_wait_ended x sessions) tube t in
    and_from (not (is_among tube paused)) (is_some (first_waiting (λ e. is_among tube e.1.watched) sessions))
    (ap not (taker-open paused (with_wait_ended x sessions) tube t))
    (waits_for sessions tube w.0 (ended-calmer x sessions w.0 w.1 w.2) w.2 w.3)
