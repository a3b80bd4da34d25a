-- Serve goes on until no waiting session has a best job.
use Rattle.std.proofs.Common.{◌≡◌, ℕ, zero, suc, ◌+◌, ◌<◌, ◌≤◌, Bool, true, false, cond, ◌&&◌, inl, inr, List, [], ◌∷◌}
use Rattle.std.proofs.Common.{◌++◌, append_assoc, append-nil, filter_map, length, Option, Some, None, IfSome, ◌==◌}
use Rattle.std.proofs.Common.{refl, sym, ap, subst, ◌∙◌, arith, eq-eqb}
use Rattle.std.proofs.lemmas.Bool.{cond-true, and_from}
use Rattle.std.specs.List.{cons_option}
use Rattle.object.specs.Lists.{In}
use Rattle.object.specs.declared.command.Answer.{Answer}
use Rattle.job_store.specs.declared.job.Job.{Job}
use Rattle.job_store.specs.LookUps.{best_ready, is_among, pri_of_job, not_paused}
use Rattle.job_store.specs.States.{is_ready}
use Rattle.session_store.specs.declared.session.SessionState.{SessionState}
use Rattle.session_store.specs.Sessions.{first_waiting, with_wait_ended, with_wait, is_waiting, wait_rank}
use Rattle.bean_words.specs.declared.reply.Reply.{Reply}
use Rattle.bean_queue.specs.Queue.{QueueState, paused_tubes}
use Rattle.bean_queue.specs.Turns.{QueueOutcome, QueueTurn, IsTurn, stop, turns, all_turns, after_turn, after_option}
use Rattle.bean_queue.specs.Turns.{wanted, next_job, give, give_to, given, serve_turn, deadline_turn, timeout_turn}
use Rattle.bean_queue.specs.Turns.{serve}
use Rattle.bean_queue.specs.TurnLaws.{serve_turn-is, deadline_turn-is, timeout_turn-is, least-in, least-none, IfSome-map, best_ready-in}
use Rattle.bean_queue.proofs.best.Paused.{open-watched}
use Rattle.bean_queue.specs.WaitLaws.{IsWaiterTurn, given-waiter, told-waiter}

-- how many sessions wait
abbrev pub waiters : List (ℕ × SessionState) → ℕ
waiters [] = 0
waiters (e ∷ es) = cond (is_waiting e.1) 1 0 + waiters es

pub waiters-length : (es : List (ℕ × SessionState)) → waiters es ≤ length es
waiters-length [] = omega arith
waiters-length (e ∷ es) =
    let h = waiters-length es in
    elim (is_waiting e.1) as (λ b. cond b 1 0 + waiters es ≤ suc (length es)) [ true ↦ omega arith | false ↦ omega arith ]

waiters-ended : (x : ℕ) (es : List (ℕ × SessionState)) → waiters (with_wait_ended x es) ≤ waiters es
waiters-ended x [] = omega arith
waiters-ended x (e ∷ es) =
    let h : waiters (with_wait_ended x es) ≤ waiters es = waiters-ended x es in
    elim (x == e.0) as (λ b. cond (is_waiting (cond b (with_wait None e.1) e.1)) 1 0 + waiters
    (with_wait_ended x es) ≤ cond (is_waiting e.1) 1 0 + waiters es) [
      | true ↦ omega arith
      | false ↦ omega arith
    ]

waiters-less : (w : ℕ × SessionState) (es : List (ℕ × SessionState)) → In w es → is_waiting w.1 ≡ true → waiters (with_wait_ended w.0 es) < waiters es
waiters-less w [] i t = absurd i
waiters-less w (e ∷ es) (inl same) t =
    let h : waiters (with_wait_ended w.0 es) ≤ waiters es = waiters-ended w.0 es in
    let a : cond (w.0 == e.0) (with_wait None e.1) e.1 ≡ with_wait None e.1 =
    cond-true (w.0 == e.0) (with_wait None e.1) e.1 (eq-eqb w.0 e.0 (ap (λ p. p.0) same)) in
    let b : is_waiting e.1 ≡ true = ap (λ (p : ℕ × SessionState). is_waiting p.1) (sym same) ∙ t in
    subst (λ c. cond (is_waiting c) 1 0 + waiters (with_wait_ended w.0 es) < cond (is_waiting e.1) 1 0 + waiters es) (sym a)
    (subst (λ v. 0 + waiters (with_wait_ended w.0 es) < cond v 1 0 + waiters es) (sym b) (omega arith))
waiters-less w (e ∷ es) (inr later) t =
    let h : waiters (with_wait_ended w.0 es) < waiters es = waiters-less w es later t in
    elim (w.0 == e.0) as (λ b. cond (is_waiting (cond b (with_wait None e.1) e.1)) 1 0 + waiters
    (with_wait_ended w.0 es) < cond (is_waiting e.1) 1 0 + waiters es) [
      | true ↦ omega arith
      | false ↦ omega arith
    ]

pub turns-done : (turn : QueueState → Option QueueTurn) → ((s : QueueState) → IfSome (turn s) (IsWaiterTurn s))
    → (n : ℕ) (s : QueueState) → waiters s.sessions ≤ n → turn (turns turn n s).state ≡ None
unfolding turns
turns-done turn good zero s few =
    elim (turn s) as (λ o. IfSome o (IsWaiterTurn s) → o ≡ None) [
      | None ↦ λ i. refl
      | Some t ↦ λ i. let h : waiters (with_wait_ended i.session.0 s.sessions) < waiters s.sessions =
          waiters-less i.session s.sessions i.known i.waits in absurd (omega arith)
    ] (good s)
turns-done turn good (suc n) s few =
    elim (turn s) as (λ o. turn s ≡ o → IfSome o (IsWaiterTurn s) → turn (after_option (turns turn n) s o).state ≡ None) [
      | None ↦ λ e i. e
      | Some t ↦ λ e i.
          let h : waiters (with_wait_ended i.session.0 s.sessions) < waiters s.sessions = waiters-less i.session s.sessions i.known i.waits in
          let g : waiters t.state.sessions ≡ waiters (with_wait_ended i.session.0 s.sessions) = ap waiters i.sessions in
          turns-done turn good n t.state (omega arith)
    ] refl (good s)

-- no turn is left
pub serve-done : (s : QueueState) → serve_turn (serve s).state ≡ None
unfolding serve all_turns
serve-done s = turns-done serve_turn (λ s. IfSome-map _ _ (serve_turn s) (given-waiter s) (serve_turn-is s)) (length s.sessions) s (waiters-length s.sessions)

module _ {X Y : Type 0} where
  -- an element whose image is there
  pub filter_map-there : (h : X → Option Y) (xs : List X) (x : X) (y : Y) → In x xs → h x ≡ Some y → In y (filter_map h xs)
  filter_map-there h [] x y i e = absurd i
  filter_map-there h (d ∷ xs) x y (inl same) e =
      subst (λ o. In y (cons_option o (filter_map h xs))) (sym e ∙ ap h same) (inl refl)
  filter_map-there h (d ∷ xs) x y (inr later) e =
      let r = filter_map-there h xs x y later e in
      elim (h d) as (λ o. In y (cons_option o (filter_map h xs))) [ None ↦ r | Some z ↦ inr r ]

-- what is wanted is wanted by a session that waits and watches its tube
pub wanted-by : (paused : List (List ℕ)) (jobs : List (ℕ × Job)) (xs : List (ℕ × SessionState)) (j : ℕ × Job)
    → In j (filter_map (wanted paused jobs) xs) → (w : ℕ × SessionState) × In w xs × (is_waiting w.1 ≡ true)
    × (is_among j.1.tube (not_paused paused w.1.watched) ≡ true)
wanted-by paused jobs [] j i = absurd i
wanted-by paused jobs (x ∷ xs) j i =
    elim (is_waiting x.1) as (λ b. is_waiting x.1 ≡ b
    → In j (cons_option (cond b (best_ready (not_paused paused x.1.watched) jobs) None)
    (filter_map (wanted paused jobs) xs)) → (w : ℕ × SessionState) × In w (x ∷ xs) × (is_waiting w.1 ≡ true)
    × (is_among j.1.tube (not_paused paused w.1.watched) ≡ true)) [
      | false ↦ λ t i. let r = wanted-by paused jobs xs j i in (r.0, inr r.1, r.2, r.3)
      | true ↦ λ t i.
          elim (best_ready (not_paused paused x.1.watched) jobs) as (λ o. IfSome o
          (λ j. In j jobs × (is_ready j.1.state ≡ true)
          × (is_among j.1.tube (not_paused paused x.1.watched) ≡ true))
          → In j (cons_option o (filter_map (wanted paused jobs) xs)) → (w : ℕ × SessionState) × In w (x ∷ xs)
          × (is_waiting w.1 ≡ true) × (is_among j.1.tube (not_paused paused w.1.watched) ≡ true)) [
            | None ↦ λ h i. let r = wanted-by paused jobs xs j i in (r.0, inr r.1, r.2, r.3)
            | Some k ↦ λ h i.
                elim i as (λ i. (w : ℕ × SessionState) × In w (x ∷ xs) × (is_waiting w.1 ≡ true) × (is_among j.1.tube (not_paused paused w.1.watched) ≡ true)) [
                  | inl same ↦ (x, inl refl, t, ap (λ (k : ℕ × Job). is_among k.1.tube (not_paused paused x.1.watched)) same ∙ h.2)
                  | inr later ↦ let r = wanted-by paused jobs xs j later in (r.0, inr r.1, r.2, r.3)
                ]
          ] (best_ready-in (not_paused paused x.1.watched) jobs) i
    ] refl i

some≢none : {X : Type 0} (x : X) → Some x ≡ None → ⊥
some≢none x e = cc

-- where no turn is left, no waiting session has a best job
pub idle_none : (s : QueueState) → serve_turn s ≡ None → (e : ℕ × SessionState) → In e s.sessions
    → is_waiting e.1 ≡ true → best_ready (not_paused (paused_tubes s) e.1.watched) s.jobs ≡ None
unfolding serve_turn
idle_none s idle e i t =
    elim (best_ready (not_paused (paused_tubes s) e.1.watched) s.jobs) as (λ o. best_ready (not_paused (paused_tubes s) e.1.watched) s.jobs ≡ o → o ≡ None) [
      | None ↦ λ b. refl
      | Some j ↦ λ b.
          let there : In j (filter_map (wanted (paused_tubes s) s.jobs) s.sessions) =
          filter_map-there (wanted (paused_tubes s) s.jobs) s.sessions e j i
          (cond-true (is_waiting e.1) (best_ready (not_paused (paused_tubes s) e.1.watched) s.jobs) None t ∙ b) in
          absurd (elim (next_job s) as (λ o. next_job s ≡ o
          → IfSome o (λ j. In j (filter_map (wanted (paused_tubes s) s.jobs) s.sessions) × (true ≡ true))
          → give s o ≡ None → ⊥) [
            | None ↦ λ n h g. least-none (λ e. true) pri_of_job (filter_map (wanted (paused_tubes s) s.jobs) s.sessions) j n there refl
            | Some k ↦ λ n h g.
                let w = wanted-by (paused_tubes s) s.jobs s.sessions k h.0 in
                elim (first_waiting (λ e. is_among k.1.tube e.1.watched) s.sessions) as (λ o. first_waiting
                (λ e. is_among k.1.tube e.1.watched) s.sessions ≡ o → give_to s k o ≡ None → ⊥) [
                  | None ↦ λ f g. least-none (λ e. is_waiting e.1 && is_among k.1.tube e.1.watched) wait_rank s.sessions
                      w.0 f w.1 (and_from (is_waiting w.0.1) (is_among k.1.tube w.0.1.watched) w.2
                      (open-watched (paused_tubes s) w.0.1.watched k.1.tube w.3).0)
                  | Some v ↦ λ f g. some≢none (given s k v) g
                ] refl g
          ] refl (least-in (λ e. true) pri_of_job (filter_map (wanted (paused_tubes s) s.jobs) s.sessions)) idle)
    ] refl

-- turns that are enough are all alike
turns-enough : (turn : QueueState → Option QueueTurn) → ((s : QueueState) → IfSome (turn s) (IsWaiterTurn s))
    → (n m : ℕ) (s : QueueState) → waiters s.sessions ≤ n → waiters s.sessions ≤ m → turns turn n s ≡ turns turn m s
unfolding turns
turns-enough turn good zero zero s a b = refl
turns-enough turn good zero (suc m) s a b =
    elim (turn s) as (λ o. IfSome o (IsWaiterTurn s) → stop s ≡ after_option (turns turn m) s o) [
      | None ↦ λ i. refl
      | Some t ↦ λ i. let h : waiters (with_wait_ended i.session.0 s.sessions) < waiters s.sessions =
          waiters-less i.session s.sessions i.known i.waits in absurd (omega arith)
    ] (good s)
turns-enough turn good (suc n) zero s a b =
    elim (turn s) as (λ o. IfSome o (IsWaiterTurn s) → after_option (turns turn n) s o ≡ stop s) [
      | None ↦ λ i. refl
      | Some t ↦ λ i. let h : waiters (with_wait_ended i.session.0 s.sessions) < waiters s.sessions =
          waiters-less i.session s.sessions i.known i.waits in absurd (omega arith)
    ] (good s)
turns-enough turn good (suc n) (suc m) s a b =
    elim (turn s) as (λ o. IfSome o (IsWaiterTurn s) → after_option (turns turn n) s o ≡ after_option (turns turn m) s o) [
      | None ↦ λ i. refl
      | Some t ↦ λ i.
          let h : waiters (with_wait_ended i.session.0 s.sessions) < waiters s.sessions = waiters-less i.session s.sessions i.known i.waits in
          let g : waiters t.state.sessions ≡ waiters (with_wait_ended i.session.0 s.sessions) = ap waiters i.sessions in
          ap (after_turn t.answer) (turns-enough turn good n m t.state (omega arith) (omega arith))
    ] (good s)

-- a session that waits gets each turn's answer
abbrev pub IsTurnOfWaiters : (QueueState → Option QueueTurn) → Type 0
IsTurnOfWaiters turn = (s : QueueState) → IfSome (turn s) (IsWaiterTurn s)

pub serves : IsTurnOfWaiters serve_turn
serves s = IfSome-map _ _ (serve_turn s) (given-waiter s) (serve_turn-is s)

pub tells_deadline : IsTurnOfWaiters deadline_turn
tells_deadline s = IfSome-map _ _ (deadline_turn s) (told-waiter Reply.DeadlineSoon s) (deadline_turn-is s)

pub tells_timeout : IsTurnOfWaiters timeout_turn
tells_timeout s = IfSome-map _ _ (timeout_turn s) (told-waiter Reply.TimedOut s) (timeout_turn-is s)

-- all turns are one turn and all turns again, or nothing: what a loop needs
pub turns-unroll : (turn : QueueState → Option QueueTurn) → IsTurnOfWaiters turn → (s : QueueState)
    → all_turns turn s ≡ after_option (all_turns turn) s (turn s)
unfolding all_turns turns
turns-unroll turn good s =
    turns-enough turn good (length s.sessions) (suc (length s.sessions)) s (waiters-length s.sessions) (let h = waiters-length s.sessions in omega arith) ∙
    elim (turn s) as (λ o. IfSome o (IsWaiterTurn s) → after_option (turns turn (length s.sessions)) s o ≡ after_option (all_turns turn) s o) [
      | None ↦ λ i. refl
      | Some t ↦ λ i.
          let h : waiters (with_wait_ended i.session.0 s.sessions) < waiters s.sessions = waiters-less i.session s.sessions i.known i.waits in
          let g : waiters t.state.sessions ≡ waiters (with_wait_ended i.session.0 s.sessions) = ap waiters i.sessions in
          let l : waiters s.sessions ≤ length s.sessions = waiters-length s.sessions in
          ap (after_turn t.answer) (turns-enough turn good (length s.sessions) (length t.state.sessions) t.state
          (omega arith) (waiters-length t.state.sessions))
    ] (good s)

-- each turn leaves fewer that wait: the measure of such a loop
turn-fewer : (turn : QueueState → Option QueueTurn) → IsTurnOfWaiters turn → (s : QueueState)
    → IfSome (turn s) (λ t. waiters t.state.sessions < waiters s.sessions)
turn-fewer turn good s =
    IfSome-map _ _ (turn s)
    (λ t i.
    let h : waiters (with_wait_ended i.session.0 s.sessions) < waiters s.sessions = waiters-less i.session s.sessions i.known i.waits in
    let g : waiters t.state.sessions ≡ waiters (with_wait_ended i.session.0 s.sessions) = ap waiters i.sessions in
    omega arith)
    (good s)

-- what is known after one call that makes a turn
pub record IsStep (turn : QueueState → Option QueueTurn) (s t : QueueState) (xs ys : List (Answer Reply)) : Type 0 where
  pub state : (all_turns turn t).state ≡ (all_turns turn s).state
  pub answers : ys ++ (all_turns turn t).answers ≡ xs ++ (all_turns turn s).answers
  pub fewer : waiters t.sessions < waiters s.sessions

turn-step : (turn : QueueState → Option QueueTurn) → IsTurnOfWaiters turn
    → (s : QueueState) (u : QueueTurn) (xs : List (Answer Reply)) → turn s ≡ Some u
    → IsStep turn s u.state xs (xs ++ u.answer ∷ [])
turn-step turn good s u xs e =
    let all : all_turns turn s ≡ after_turn u.answer (all_turns turn u.state) = turns-unroll turn good s ∙ ap (after_option (all_turns turn) s) e in
    record {
      state = sym (ap (λ (o : QueueOutcome). o.state) all);
      answers = append_assoc xs (u.answer ∷ []) (all_turns turn u.state).answers ∙ sym (ap (λ (o : QueueOutcome). xs ++ o.answers) all);
      fewer = subst (λ o. IfSome o (λ t. waiters t.state.sessions < waiters s.sessions)) e (turn-fewer turn good s);
    }

pub turn_made : (turn : QueueState → Option QueueTurn) → IsTurnOfWaiters turn
    → (s t : QueueState) (xs ys : List (Answer Reply)) (more : Bool) → more ≡ true → IsTurn turn s t xs ys more
    → IsStep turn s t xs ys
turn_made turn good s t xs ys false e i = cc
turn_made turn good s t xs ys true e i =
    subst (λ t. IsStep turn s t xs ys) (sym i.2) (subst (λ ys. IsStep turn s i.0.state xs ys) (sym i.3) (turn-step turn good s i.0 xs i.1))

-- what is known after one that makes none
pub record IsEnd (turn : QueueState → Option QueueTurn) (s t : QueueState) (xs ys : List (Answer Reply)) : Type 0 where
  pub state : t ≡ (all_turns turn s).state
  pub answers : ys ≡ xs ++ (all_turns turn s).answers

pub no_turn : (turn : QueueState → Option QueueTurn) → IsTurnOfWaiters turn
    → (s t : QueueState) (xs ys : List (Answer Reply)) (more : Bool) → more ≡ false → IsTurn turn s t xs ys more
    → IsEnd turn s t xs ys
no_turn turn good s t xs ys true e i = cc
no_turn turn good s t xs ys false e i =
    let all : all_turns turn s ≡ stop s = turns-unroll turn good s ∙ ap (after_option (all_turns turn) s) i.0 in
    record {
      state = i.1 ∙ sym (ap (λ (o : QueueOutcome). o.state) all);
      answers = i.2 ∙ sym (append-nil xs) ∙ sym (ap (λ (o : QueueOutcome). xs ++ o.answers) all);
    }
