use Rattle.std.proofs.Common.{◌≡◌, ◌∙◌, ℕ, true, ◌∷◌, [], ◌++◌, Some, None, is_some, IsSome, rules, refl, sym, ap, subst}
use Rattle.object.specs.declared.command.Answer.{Answer}
use Rattle.session_store.specs.declared.session.SessionState.{SessionState}
use Rattle.session_store.specs.Sessions.{first_waiting, has_timed_out}
use Rattle.session_store.specs.Drafts.{Draft}
use Rattle.bean_words.specs.declared.reply.Reply.{Reply}
use Rattle.object.proofs.KeyMaps.{on_err}
use Rattle.bean_queue.specs.Queue.{QueueState, state_of}
use Rattle.bean_queue.specs.Turns.{IsTurn, timeout_turn}
use Rattle.bean_queue.proofs.best.Turned.{none-told_timeout, some-told_timeout, told_timeout}
use Rattle.bean_queue.proofs.logic.Logic.tell_timeout.Goals as goal

pub returns-in_default-clause-turn : goal.returns-in_default-clause-turn
returns-in_default-clause-turn g c = record {
  turn =
      let s = state_of c.self.inside.counters c.self.inside.jobs.now c.self.inside.sessions.now c.self.inside.pauses.now.pauses c.self.inside.tubes.now in
      let nobody : first_waiting (λ e. has_timed_out s.now e.1.wait) s.sessions ≡ None = sym c.in_default.ensures.first in
      (ap (λ (d : Draft QueueState). timeout_turn d.now) (sym c.self.view_is) ∙ none-told_timeout s nobody, refl, refl);
  before = refl;
}

pub returns-clause-turn : goal.returns-clause-turn
returns-clause-turn g c = record {
  turn =
      let s = state_of c.self.inside.counters c.self.inside.jobs.now c.self.inside.sessions.now c.self.inside.pauses.now.pauses c.self.inside.tubes.now in
      let w : ℕ × SessionState = (c.in-Some.session, c.in-Some.waiter.now) in
      let first : first_waiting (λ e. has_timed_out s.now e.1.wait) s.sessions ≡ Some w = sym c.in-Some.ensures.first in
      subst (λ (d : Draft QueueState). IsTurn timeout_turn d.now
      (state_of c.self.inside.counters c.self.inside.jobs.now c.set_wait.new.self.now c.self.inside.pauses.now.pauses c.self.inside.tubes.now)
      c.args.answers.now.items c.push.new.self.items true) c.self.view_is
      (told_timeout s w c.set_wait.new.self.now c.args.answers.now.items c.push.new.self.items first c.in_ok-set_wait.ensures.now
      (c.in_ok-push.ensures.items ∙
      ap (λ number. let a : Answer Reply =
      record { to = record { session = w.0; number = number }; reply = Reply.TimedOut } in c.args.answers.now.items ++
      a ∷ []) c.wait_number.ensures));
  before = search rules;
}

pub returns-in_err-push-clause-err : goal.returns-in_err-push-clause-err
returns-in_err-push-clause-err g c =
    let s = state_of c.self.inside.counters c.self.inside.jobs.now c.self.inside.sessions.now c.self.inside.pauses.now.pauses c.self.inside.tubes.now in
    let w : ℕ × SessionState = (c.in-Some.session, c.in-Some.waiter.now) in
    let first : first_waiting (λ e. has_timed_out s.now e.1.wait) s.sessions ≡ Some w = sym c.in-Some.ensures.first in
    on_err c.from_residual.result (subst (λ (d : Draft QueueState). IsSome (timeout_turn d.now)) c.self.view_is (some-told_timeout s (ap is_some first)))

pub returns-in_err-set_wait-clause-err : goal.returns-in_err-set_wait-clause-err
returns-in_err-set_wait-clause-err g c =
    let s = state_of c.self.inside.counters c.self.inside.jobs.now c.self.inside.sessions.now c.self.inside.pauses.now.pauses c.self.inside.tubes.now in
    let w : ℕ × SessionState = (c.in-Some.session, c.in-Some.waiter.now) in
    let first : first_waiting (λ e. has_timed_out s.now e.1.wait) s.sessions ≡ Some w = sym c.in-Some.ensures.first in
    on_err c.from_residual-in_err-set_wait.result (subst (λ (d : Draft QueueState). IsSome (timeout_turn d.now)) c.self.view_is (some-told_timeout s (ap is_some first)))
