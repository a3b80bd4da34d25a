-- Who is picked, and what many turns keep.
use Rattle.std.proofs.Common.{◌≡◌, ℕ, zero, suc, ◌+◌, Bool, true, false, cond, ◌&&◌, inl, inr, List, [], ◌∷◌}
use Rattle.std.proofs.Common.{filter_map, Option, Some, None, IfSome, refl, sym, ap, subst, ◌∙◌, true≢false}
use Rattle.std.proofs.lemmas.Bool.{and_parts}
use Rattle.std.specs.List.{AllByRecursion}
use Rattle.object.specs.Lists.{In}
use Rattle.object.specs.declared.command.Answer.{Answer}
use Rattle.job_store.specs.declared.job.Job.{Job}
use Rattle.job_store.specs.Least.{comes_before, lesser, least}
use Rattle.job_store.specs.LookUps.{is_among, best_ready, ready_in, pri_of_job, not_paused}
use Rattle.job_store.specs.States.{is_ready}
use Rattle.session_store.specs.declared.session.SessionState.{SessionState}
use Rattle.session_store.specs.Sessions.{first_waiting, is_waiting, wait_rank, has_timed_out}
use Rattle.bean_words.specs.declared.reply.Reply.{Reply}
use Rattle.bean_queue.specs.Queue.{QueueState, holds_by, paused_tubes}
use Rattle.bean_queue.specs.Turns.{QueueTurn, turns, after_option, wanted, next_job, given, give, give_to, serve_turn}
use Rattle.bean_queue.specs.Turns.{told_turn, tell, deadline_turn, timeout_turn}

module _ {X : Type 0} where
  -- what is least is there, and passes
  pub least-in : (test : ℕ × X → Bool) (by : X → ℕ) (es : List (ℕ × X)) → IfSome (least test by es) (λ y. In y es × (test y ≡ true))
  least-in test by [] = tt
  least-in test by (x ∷ xs) =
      elim (test x) as (λ b. test x ≡ b → IfSome (cond b (Some (lesser by x (least test by xs))) (least test by xs)) (λ y. In y (x ∷ xs) × (test y ≡ true))) [
        | true ↦ λ e.
            elim (least test by xs) as (λ o. IfSome o (λ y. In y xs × (test y ≡ true)) → In (lesser by x o) (x ∷ xs) × (test (lesser by x o) ≡ true)) [
              | None ↦ λ i. (inl refl, e)
              | Some y ↦ λ i.
                  elim (comes_before by y x) as (λ b. In (cond b y x) (x ∷ xs) × (test (cond b y x) ≡ true)) [
                    | true ↦ (inr i.0, i.1)
                    | false ↦ (inl refl, e)
                  ]
            ] (least-in test by xs)
        | false ↦ λ e.
            elim (least test by xs) as (λ o. IfSome o (λ y. In y xs × (test y ≡ true)) → IfSome o (λ y. In y (x ∷ xs) × (test y ≡ true))) [
              | None ↦ λ i. tt
              | Some y ↦ λ i. (inr i.0, i.1)
            ] (least-in test by xs)
      ] refl

  -- where nothing is least, nothing passes
  pub least-none : (test : ℕ × X → Bool) (by : X → ℕ) (es : List (ℕ × X)) (x : ℕ × X) → least test by es ≡ None → In x es → test x ≡ true → ⊥
  least-none test by [] x n i t = i
  least-none test by (e ∷ es) x n i t =
      elim (test e) as (λ b. test e ≡ b → cond b (Some (lesser by e (least test by es))) (least test by es) ≡ None → ⊥) [
        | true ↦ λ f n. cc
        | false ↦ λ f n.
            elim i as (λ i. ⊥) [
              | inl same ↦ true≢false (sym t ∙ ap test same ∙ f)
              | inr later ↦ least-none test by es x n later t
            ]
      ] refl n

  -- and where nothing passes, nothing is least
  pub none-least : (test : ℕ × X → Bool) (by : X → ℕ) (es : List (ℕ × X)) → ((x : ℕ × X) → In x es → test x ≡ true → ⊥) → least test by es ≡ None
  none-least test by [] h = refl
  none-least test by (e ∷ es) h =
      elim (test e) as (λ b. test e ≡ b → cond b (Some (lesser by e (least test by es))) (least test by es) ≡ None) [
        | true ↦ λ t. absurd (h e (inl refl) t)
        | false ↦ λ t. none-least test by es (λ x i. h x (inr i))
      ] refl

module _ {X : Type 0} where
  pub filter_map-in : {Y : Type 0} (h : X → Option Y) (P : Y → Type 0) → ((x : X) → IfSome (h x) P) → (xs : List X) (y : Y) → In y (filter_map h xs) → P y
  filter_map-in h P each [] y i = absurd i
  filter_map-in {Y} h P each (x ∷ xs) y i =
      elim (h x) as (λ o. IfSome o P → In y (Rattle.std.specs.List.cons_option o (filter_map h xs)) → P y) [
        | None ↦ λ p i. filter_map-in h P each xs y i
        | Some z ↦ λ p i. elim i as (λ i. P y) [ inl same ↦ subst P (sym same) p | inr later ↦ filter_map-in h P each xs y later ]
      ] (each x) i

-- what holds of the value of an option follows from what else does
pub IfSome-map : {X : Type 0} (P Q : X → Type 0) (o : Option X) → ((x : X) → P x → Q x) → IfSome o P → IfSome o Q
IfSome-map P Q None f h = tt
IfSome-map P Q (Some x) f h = f x h

pub best_ready-in : (tubes : List (List ℕ)) (jobs : List (ℕ × Job))
    → IfSome (best_ready tubes jobs) (λ j. In j jobs × (is_ready j.1.state ≡ true) × (is_among j.1.tube tubes ≡ true))
best_ready-in tubes jobs =
    IfSome-map _ _ (best_ready tubes jobs)
    (λ j h. let b = and_parts (is_ready j.1.state) (is_among j.1.tube tubes) h.1 in (h.0, b.0, b.1))
    (least-in (ready_in tubes) pri_of_job jobs)

pub wanted-in : (paused : List (List ℕ)) (jobs : List (ℕ × Job)) (e : ℕ × SessionState)
    → IfSome (wanted paused jobs e) (λ j. In j jobs × (is_ready j.1.state ≡ true))
wanted-in paused jobs e =
    elim (is_waiting e.1) as (λ b. IfSome (cond b (best_ready (not_paused paused e.1.watched) jobs) None) (λ j. In j jobs × (is_ready j.1.state ≡ true))) [
      | true ↦ IfSome-map _ _ (best_ready (not_paused paused e.1.watched) jobs) (λ j h. (h.0, h.1)) (best_ready-in (not_paused paused e.1.watched) jobs)
      | false ↦ tt
    ]

pub next_job-in : (s : QueueState) → IfSome (next_job s) (λ j. In j s.jobs × (is_ready j.1.state ≡ true))
next_job-in s =
    IfSome-map _ _ (next_job s)
    (λ j h. filter_map-in (wanted (paused_tubes s) s.jobs) (λ j. In j s.jobs × (is_ready j.1.state ≡ true))
    (wanted-in (paused_tubes s) s.jobs) s.sessions j h.0)
    (least-in (λ e. true) pri_of_job (filter_map (wanted (paused_tubes s) s.jobs) s.sessions))

pub first_waiting-in : (test : ℕ × SessionState → Bool) (sessions : List (ℕ × SessionState))
    → IfSome (first_waiting test sessions) (λ w. In w sessions × (is_waiting w.1 ≡ true) × (test w ≡ true))
first_waiting-in test sessions =
    IfSome-map _ _ (first_waiting test sessions)
    (λ w h. let b = and_parts (is_waiting w.1) (test w) h.1 in (h.0, b.0, b.1))
    (least-in (λ e. is_waiting e.1 && test e) wait_rank sessions)

-- a turn of Serve: a Ready job goes to a session that waits
pub record IsServed (s : QueueState) (t : QueueTurn) : Type 0 where
  pub job : ℕ × Job
  pub session : ℕ × SessionState
  pub there : In job s.jobs
  pub ready : is_ready job.1.state ≡ true
  pub known : In session s.sessions
  pub waits : is_waiting session.1 ≡ true
  pub watches : is_among job.1.tube session.1.watched ≡ true
  pub made : t ≡ given s job session

pub serve_turn-is : (s : QueueState) → IfSome (serve_turn s) (IsServed s)
unfolding serve_turn
serve_turn-is s =
    elim (next_job s) as (λ o. IfSome o (λ j. In j s.jobs × (is_ready j.1.state ≡ true)) → IfSome (give s o) (IsServed s)) [
      | None ↦ λ h. tt
      | Some j ↦ λ h.
          elim (first_waiting (λ e. is_among j.1.tube e.1.watched) s.sessions) as (λ o. IfSome o
          (λ w. In w s.sessions × (is_waiting w.1 ≡ true) × (is_among j.1.tube w.1.watched ≡ true))
          → IfSome (give_to s j o) (IsServed s)) [
            | None ↦ λ k. tt
            | Some w ↦ λ k. record { job = j; session = w; there = h.0; ready = h.1; known = k.0; waits = k.1; watches = k.2; made = refl }
          ] (first_waiting-in (λ e. is_among j.1.tube e.1.watched) s.sessions)
    ] (next_job-in s)

-- a session that waits is told, and nothing else changes
pub record IsTold (reply : Reply) (s : QueueState) (t : QueueTurn) : Type 0 where
  pub session : ℕ × SessionState
  pub known : In session s.sessions
  pub waits : is_waiting session.1 ≡ true
  pub made : t ≡ told_turn s reply session

pub tell-is : (s : QueueState) (reply : Reply) (test : ℕ × SessionState → Bool) → IfSome (tell s reply (first_waiting test s.sessions)) (IsTold reply s)
tell-is s reply test =
    elim (first_waiting test s.sessions) as (λ o. IfSome o
    (λ w. In w s.sessions × (is_waiting w.1 ≡ true) × (test w ≡ true)) → IfSome (tell s reply o) (IsTold reply s)) [
      | None ↦ λ k. tt
      | Some w ↦ λ k. record { session = w; known = k.0; waits = k.1; made = refl }
    ] (first_waiting-in test s.sessions)

pub deadline_turn-is : (s : QueueState) → IfSome (deadline_turn s) (IsTold Reply.DeadlineSoon s)
unfolding deadline_turn
deadline_turn-is s = tell-is s Reply.DeadlineSoon (λ e. holds_by e.0 (s.now + 1) s.jobs)

pub timeout_turn-is : (s : QueueState) → IfSome (timeout_turn s) (IsTold Reply.TimedOut s)
unfolding timeout_turn
timeout_turn-is s = tell-is s Reply.TimedOut (λ e. has_timed_out s.now e.1.wait)

-- what every turn keeps, and what holds of every answer of a turn
pub turns-keep : (turn : QueueState → Option QueueTurn) (P : QueueState → Type 0) (Q : Answer Reply → Type 0)
    → ((s : QueueState) → P s → IfSome (turn s) (λ t. P t.state × Q t.answer)) → (n : ℕ) (s : QueueState) → P s
    → P (turns turn n s).state × AllByRecursion Q (turns turn n s).answers
unfolding turns
turns-keep turn P Q step zero s p = (p, tt)
turns-keep turn P Q step (suc n) s p =
    elim (turn s) as (λ o. IfSome o (λ t. P t.state × Q t.answer) → P (after_option (turns turn n) s o).state
    × AllByRecursion Q (after_option (turns turn n) s o).answers) [
      | None ↦ λ h. (p, tt)
      | Some t ↦ λ h. let rest = turns-keep turn P Q step n t.state h.0 in (rest.0, (h.1, rest.1))
    ] (step s p)
