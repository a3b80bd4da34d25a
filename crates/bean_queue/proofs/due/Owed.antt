-- After a second has come, nothing is due to a session that waits.
use Rattle.std.proofs.Common.{List, ◌≡◌, ℕ, ◌+◌, ◌<◌, Bool, true, false, cond, ◌&&◌, inl, inr, None, Some, nat_le, length, refl, sym, subst, lt-ltb}
use Rattle.std.proofs.lemmas.Bool.{and_from, cases_Bool, leb-false}
use Rattle.object.specs.Lists.{In}
use Rattle.job_store.specs.States.{is_held, due_of}
use Rattle.session_store.specs.declared.session.SessionState.{SessionState}
use Rattle.session_store.specs.Sessions.{first_waiting, is_waiting, wait_rank, has_timed_out}
use Rattle.bean_words.specs.declared.reply.Reply.{Reply}
use Rattle.pause_store.specs.Pauses.{tubes_over}
use Rattle.bean_queue.specs.Rows.{settled}
use Rattle.bean_queue.specs.Effects.{second_begun, tick_effect, then_do, then_settled}
use Rattle.bean_queue.specs.Owed.{OwesNothing}
use Rattle.bean_queue.specs.Queue.{QueueState, holds_by}
use Rattle.bean_queue.specs.TurnLaws.{least-none, turns-keep, timeout_turn-is, IsTold, IfSome-map}
use Rattle.bean_queue.specs.Turns.{QueueTurn, all_turns, serve, serve_turn, tell, told_turn, deadline_turn, timeout_turn, stop}
use Rattle.bean_queue.proofs.calm.Calm.{ended-calmer, deadlines-calm, timeouts-calm}
use Rattle.bean_queue.proofs.due.Holders.{held-due, holds-one}
use Rattle.bean_queue.proofs.best.Served.{waiters-length, turns-done, serve-done, tells_deadline, tells_timeout}
use Rattle.bean_queue.proofs.calm.Woken.{nothing-wanted}

-- nobody waits who passes
abbrev NobodyWaits : (ℕ × SessionState → Bool) → QueueState → Type 0
NobodyWaits test s = (w : ℕ × SessionState) → In w s.sessions → is_waiting w.1 ≡ true → test w ≡ true → ⊥

nobody : (reply : Reply) (test : ℕ × SessionState → Bool) (s : QueueState) → tell s reply (first_waiting test s.sessions) ≡ None → NobodyWaits test s
nobody reply test s none w i waits passes =
    elim (first_waiting test s.sessions) as (λ o. first_waiting test s.sessions ≡ o → tell s reply o ≡ None → ⊥) [
      | None ↦ λ f e. least-none (λ e. is_waiting e.1 && test e) wait_rank s.sessions w f i (and_from (is_waiting w.1) (test w) waits passes)
      | Some v ↦ λ f e. cc
    ] refl none

-- nobody waits who has a job that is due within a second
abbrev NobodyHolds : QueueState → Type 0
NobodyHolds s = NobodyWaits (λ e. holds_by e.0 (s.now + 1) s.jobs) s

none-holds : (s : QueueState) → deadline_turn s ≡ None → NobodyHolds s
unfolding deadline_turn
none-holds s none = nobody Reply.DeadlineSoon (λ e. holds_by e.0 (s.now + 1) s.jobs) s none

holds-done : (s : QueueState) → NobodyHolds (all_turns deadline_turn s).state
unfolding all_turns
holds-done s = none-holds _ (turns-done deadline_turn tells_deadline (length s.sessions) s (waiters-length s.sessions))

told-holds : (reply : Reply) (s : QueueState) (t : QueueTurn) → IsTold reply s t → NobodyHolds s → NobodyHolds t.state
unfolding told_turn
told-holds reply s t i h = subst (λ (t : QueueTurn). NobodyHolds t.state) (sym i.made)
    (λ w there waits holds. h w (ended-calmer i.session.0 s.sessions w there waits) waits holds)

timeouts-hold : (s : QueueState) → NobodyHolds s → NobodyHolds (all_turns timeout_turn s).state
unfolding all_turns
timeouts-hold s h = (turns-keep timeout_turn NobodyHolds (λ a. Unit {0})
    (λ s n. IfSome-map _ _ (timeout_turn s) (λ t i. (told-holds Reply.TimedOut s t i n, tt)) (timeout_turn-is s))
    (length s.sessions) s h).0

-- nobody waits whose wait is over
abbrev NobodyIsLate : QueueState → Type 0
NobodyIsLate s = NobodyWaits (λ e. has_timed_out s.now e.1.wait) s

none-late : (s : QueueState) → timeout_turn s ≡ None → NobodyIsLate s
unfolding timeout_turn
none-late s none = nobody Reply.TimedOut (λ e. has_timed_out s.now e.1.wait) s none

late-done : (s : QueueState) → NobodyIsLate (all_turns timeout_turn s).state
unfolding all_turns
late-done s = none-late _ (turns-done timeout_turn tells_timeout (length s.sessions) s (waiters-length s.sessions))

owes-nothing : (s : QueueState) → serve_turn s ≡ None → NobodyHolds s → NobodyIsLate s → OwesNothing s
owes-nothing s none holds late w i waits = record {
  no_job = λ j there ready clear among. nothing-wanted s j none (record { there = there; ready = ready; unpaused = clear; watched = (w, i, waits, among) });
  no_deadline = λ j there has.
      elim (cases_Bool (nat_le (due_of j.1.state) (s.now + 1))) as (λ v. s.now + 1 < due_of j.1.state) [
        | inl due ↦
            absurd (holds w i waits (holds-one w.0 (s.now + 1) s.jobs j there
            (held-due w.0 (s.now + 1) j.1.state
            (and_from (is_held w.0 j.1.state) (nat_le (due_of j.1.state) (s.now + 1)) has due)) has))
        | inr early ↦ leb-false (due_of j.1.state) (s.now + 1) early
      ];
  no_time_out =
      elim (cases_Bool (has_timed_out s.now w.1.wait)) as (λ v. has_timed_out s.now w.1.wait ≡ false) [
        | inl over ↦ absurd (late w i waits over)
        | inr on ↦ on
      ];
}

second-owes : (s : QueueState) → OwesNothing (all_turns timeout_turn (all_turns deadline_turn (serve s).state).state).state
second-owes s =
    let t = (all_turns deadline_turn (serve s).state).state in
    owes-nothing _ (timeouts-calm t (deadlines-calm (serve s).state (serve-done s))) (timeouts-hold t (holds-done (serve s).state)) (late-done t)

settled-owes : (tubes : List (List ℕ)) (s : QueueState) → OwesNothing s → OwesNothing (settled tubes s)
settled-owes tubes s owes w i waits = let o = owes w i waits in record { no_job = o.no_job; no_deadline = o.no_deadline; no_time_out = o.no_time_out }

pub tick-owes : (s : QueueState) (second : ℕ) → s.now < second → OwesNothing (tick_effect second s).state
unfolding tick_effect
tick-owes s second above =
    subst (λ b. OwesNothing (cond b
    (then_settled (tubes_over second s.pauses)
    (then_do (then_do (serve (second_begun second s)) (all_turns deadline_turn)) (all_turns timeout_turn)))
    (stop s)).state) (sym (lt-ltb s.now second above))
    (settled-owes (tubes_over second s.pauses) _ (second-owes (second_begun second s)))
