-- One turn, in the words of the code.
use Rattle.std.proofs.Common.{◌≡◌, ℕ, ◌+◌, Bool, true, false, ◌&&◌, List, [], ◌∷◌, ◌++◌, Option, Some, None, is_some, IsSome, unwrap_or}
use Rattle.std.proofs.Common.{Result, Ok, Err, OnErr, refl, sym, ap, ap₂, ◌∙◌, true≢false}
use Rattle.std.proofs.lemmas.Bool.{and_parts, and_from}
use Rattle.object.specs.declared.command.Answer.{Answer}
use Rattle.job_store.specs.declared.job.Job.{Job}
use Rattle.job_store.specs.Entries.{value_at, altered}
use Rattle.job_store.specs.EntryLaws.{value_at-found}
use Rattle.job_store.specs.LookUps.{is_among}
use Rattle.job_store.specs.States.{reserved_job}
use Rattle.session_store.specs.declared.session.SessionState.{SessionState}
use Rattle.session_store.specs.Sessions.{new_session, first_waiting, is_waiting, wait_rank, with_wait_ended, has_timed_out}
use Rattle.bean_words.specs.declared.reply.Reply.{Reply}
use Rattle.bean_queue.specs.Queue.{QueueState, holds_by}
use Rattle.bean_queue.specs.Holders.{waits_at, IsSomeHolder}
use Rattle.bean_queue.specs.TurnLaws.{least-none}
use Rattle.bean_queue.specs.Turns.{QueueTurn, IsTurn, next_job, answer_to, given, give, give_to, serve_turn, told_turn, tell, deadline_turn, timeout_turn}

told-some : (s : QueueState) (reply : Reply) (o : Option (ℕ × SessionState)) → IsSome o → IsSome (tell s reply o)
told-some s reply None some = some
told-some s reply (Some w) some = refl

-- no turn
pub none-served : (s : QueueState) → next_job s ≡ None → serve_turn s ≡ None
unfolding serve_turn
none-served s e = ap (give s) e

pub nobody-served : (s : QueueState) (j : ℕ × Job) → next_job s ≡ Some j
    → first_waiting (λ e. is_among j.1.tube e.1.watched) s.sessions ≡ None → serve_turn s ≡ None
unfolding serve_turn
nobody-served s j e f = ap (give s) e ∙ ap (give_to s j) f

pub none-told_deadline : (s : QueueState) → first_waiting (λ e. holds_by e.0 (s.now + 1) s.jobs) s.sessions ≡ None → deadline_turn s ≡ None
unfolding deadline_turn
none-told_deadline s e = ap (tell s Reply.DeadlineSoon) e

pub none-told_timeout : (s : QueueState) → first_waiting (λ e. has_timed_out s.now e.1.wait) s.sessions ≡ None → timeout_turn s ≡ None
unfolding timeout_turn
none-told_timeout s e = ap (tell s Reply.TimedOut) e

-- there is one
pub some-served : (s : QueueState) (j : ℕ × Job) (w : ℕ × SessionState) → next_job s ≡ Some j
    → first_waiting (λ e. is_among j.1.tube e.1.watched) s.sessions ≡ Some w → IsSome (serve_turn s)
unfolding serve_turn
some-served s j w e f = ap is_some (ap (give s) e ∙ ap (give_to s j) f)

pub some-told_deadline : (s : QueueState) → IsSome (first_waiting (λ e. holds_by e.0 (s.now + 1) s.jobs) s.sessions) → IsSome (deadline_turn s)
unfolding deadline_turn
some-told_deadline s some = told-some s Reply.DeadlineSoon (first_waiting (λ e. holds_by e.0 (s.now + 1) s.jobs) s.sessions) some

pub some-told_timeout : (s : QueueState) → IsSome (first_waiting (λ e. has_timed_out s.now e.1.wait) s.sessions) → IsSome (timeout_turn s)
unfolding timeout_turn
some-told_timeout s some = told-some s Reply.TimedOut (first_waiting (λ e. has_timed_out s.now e.1.wait) s.sessions) some

-- where some session waits and has a job due within a second, one is told
pub holder-told : (s : QueueState) → IsSomeHolder (s.now + 1) s.jobs s.sessions → IsSome (deadline_turn s)
holder-told s h =
    let both = and_parts (waits_at s.sessions h.0) (holds_by h.0 (s.now + 1) s.jobs) h.1 in
    some-told_deadline s
    (elim (value_at h.0 s.sessions) as (λ o. value_at h.0 s.sessions ≡ o → is_waiting (unwrap_or o new_session) ≡ true
    → IsSome (first_waiting (λ e. holds_by e.0 (s.now + 1) s.jobs) s.sessions)) [
      | None ↦ λ there waits. cc
      | Some c ↦ λ there waits.
          let f = value_at-found h.0 s.sessions c there in
          let passes : (is_waiting f.0.1 && holds_by f.0.0 (s.now + 1) s.jobs) ≡ true =
          and_from (is_waiting f.0.1) (holds_by f.0.0 (s.now + 1) s.jobs) (ap is_waiting f.3 ∙ waits)
          (ap (λ x. holds_by x (s.now + 1) s.jobs) f.2 ∙ both.1) in
          elim (first_waiting (λ e. holds_by e.0 (s.now + 1) s.jobs) s.sessions) as (λ o.
          first_waiting (λ e. holds_by e.0 (s.now + 1) s.jobs) s.sessions ≡ o → IsSome o) [
            | None ↦ λ none. absurd (least-none (λ e. is_waiting e.1 && holds_by e.0 (s.now + 1) s.jobs) wait_rank s.sessions f.0 none f.1 passes)
            | Some w ↦ λ first. refl
          ] refl
    ] refl both.0)

-- turns go on from a state in which there was one, or none was made
pub begun : {E R : Type 0} (turn : QueueState → Option QueueTurn) (s t : QueueState) (result : Result R E) → (turn s ≡ None → t ≡ s)
    → OnErr result (IsSome (turn t)) → OnErr result (IsSome (turn s))
begun turn s t (Ok r) same some = tt
begun turn s t (Err e) same some =
    elim (turn s) as (λ o. turn s ≡ o → IsSome o) [
      | None ↦ λ none. ap is_some (sym none ∙ sym (ap turn (same none))) ∙ some
      | Some u ↦ λ there. refl
    ] refl

pub still-begun : (turn : QueueState → Option QueueTurn) (s t u : QueueState) (xs ys : List (Answer Reply)) (more : Bool) → more ≡ true
    → IsTurn turn t u xs ys more → (turn s ≡ None → t ≡ s) → turn s ≡ None → u ≡ s
still-begun turn s t u xs ys false so made same none = absurd (true≢false (sym so))
still-begun turn s t u xs ys true so made same none =
    let never : Some made.0 ≡ None = sym made.1 ∙ ap turn (same none) ∙ none in cc

-- a turn
pub served : (s : QueueState) (j : ℕ × Job) (w : ℕ × SessionState) (jobs : List (ℕ × Job))
    (sessions : List (ℕ × SessionState)) (xs ys : List (Answer Reply)) → next_job s ≡ Some j
    → first_waiting (λ e. is_among j.1.tube e.1.watched) s.sessions ≡ Some w
    → jobs ≡ altered j.0 (reserved_job w.0 (s.now + j.1.ttr)) s.jobs
    → sessions ≡ with_wait_ended w.0 s.sessions → ys ≡ xs ++ answer_to w (Reply.Reserved j.0 j.1.body) ∷ []
    → IsTurn serve_turn s (record s { jobs = jobs; sessions = sessions }) xs ys true
unfolding serve_turn given
served s j w jobs sessions xs ys e f g h a = (
  given s j w,
  ap (give s) e ∙ ap (give_to s j) f,
  ap₂
      (λ es ss. let t : QueueState = record s { jobs = es; sessions = ss } in t) g h,
  a,
)

pub told_deadline : (s : QueueState) (w : ℕ × SessionState) (sessions : List (ℕ × SessionState))
    (xs ys : List (Answer Reply)) → first_waiting (λ e. holds_by e.0 (s.now + 1) s.jobs) s.sessions ≡ Some w
    → sessions ≡ with_wait_ended w.0 s.sessions → ys ≡ xs ++ answer_to w Reply.DeadlineSoon ∷ []
    → IsTurn deadline_turn s (record s { sessions = sessions }) xs ys true
unfolding deadline_turn told_turn
told_deadline s w sessions xs ys f h a = (
  told_turn s Reply.DeadlineSoon w,
  ap (tell s Reply.DeadlineSoon) f,
  ap
      (λ ss. let t : QueueState = record s { sessions = ss } in t) h,
  a,
)

pub told_timeout : (s : QueueState) (w : ℕ × SessionState) (sessions : List (ℕ × SessionState))
    (xs ys : List (Answer Reply)) → first_waiting (λ e. has_timed_out s.now e.1.wait) s.sessions ≡ Some w
    → sessions ≡ with_wait_ended w.0 s.sessions → ys ≡ xs ++ answer_to w Reply.TimedOut ∷ []
    → IsTurn timeout_turn s (record s { sessions = sessions }) xs ys true
unfolding timeout_turn told_turn
told_timeout s w sessions xs ys f h a = (
  told_turn s Reply.TimedOut w,
  ap (tell s Reply.TimedOut) f,
  ap
      (λ ss. let t : QueueState = record s { sessions = ss } in t) h,
  a,
)
