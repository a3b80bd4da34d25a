use Rattle.std.proofs.Common.{◌≡◌, ◌∙◌, ℕ, ◌+◌, ◌^◌, true, ◌∷◌, [], ◌++◌, Some, None, is_some, IsSome, rules, refl, sym, ap, ap₂, subst, List}
use Rattle.object.specs.declared.command.Answer.{Answer}
use Rattle.job_store.specs.Entries.{Rising}
use Rattle.session_store.specs.declared.session.SessionState.{SessionState}
use Rattle.session_store.specs.Sessions.{first_waiting, with_wait_ended}
use Rattle.session_store.specs.Drafts.{Draft}
use Rattle.bean_words.specs.declared.reply.Reply.{Reply}
use Rattle.bean_queue.specs.HolderLines.{HasAllHolders}
use Rattle.object.proofs.KeyMaps.{on_err}
use Rattle.bean_queue.specs.Queue.{QueueState, holds_by, state_of}
use Rattle.bean_queue.specs.Turns.{IsTurn, deadline_turn}
use Rattle.bean_queue.proofs.best.Turned.{none-told_deadline, some-told_deadline, told_deadline}
use Rattle.bean_queue.proofs.logic.Logic.tell_deadline.Goals as goal

pub next-requires-clause-rising : goal.next-requires-clause-rising
next-requires-clause-rising g c = subst (Rising 0 (2 ^ 32)) (sym c.map-2.ensures.sessions) c.map-2.ensures.rising

pub next-requires-clause-all : goal.next-requires-clause-all
next-requires-clause-all g c =
    let s = state_of c.self.inside.counters c.self.inside.jobs.now c.self.inside.sessions.now c.self.inside.pauses.now.pauses c.self.inside.tubes.now in
    subst (λ jobs. HasAllHolders c.args.line.now (s.now + 1) jobs c.map-2.result.now.entries) (sym c.map.ensures.jobs)
    (subst (HasAllHolders c.args.line.now (s.now + 1) s.jobs) (sym c.map-2.ensures.sessions)
    (subst (λ (d : Draft QueueState). HasAllHolders c.args.line.now (d.now.now + 1) d.now.jobs d.now.sessions) (sym c.self.view_is) c.requires))

pub returns-in_default-clause-turn : goal.returns-in_default-clause-turn
returns-in_default-clause-turn g c = record {
  turn =
      let s = state_of c.self.inside.counters c.self.inside.jobs.now c.self.inside.sessions.now c.self.inside.pauses.now.pauses c.self.inside.tubes.now in
      let nobody : first_waiting (λ e. holds_by e.0 (s.now + 1) s.jobs) s.sessions ≡ None =
      ap₂ (λ jobs. first_waiting (λ e. holds_by e.0 (s.now + 1) jobs)) (sym c.map.ensures.jobs) (sym c.map-2.ensures.sessions) ∙
      sym c.in_default.ensures.first in
      (ap (λ (d : Draft QueueState). deadline_turn d.now) (sym c.self.view_is) ∙ none-told_deadline s nobody, refl, refl);
  before = refl;
}

pub returns-clause-turn : goal.returns-clause-turn
returns-clause-turn g c = record {
  turn =
      let s = state_of c.self.inside.counters c.self.inside.jobs.now c.self.inside.sessions.now c.self.inside.pauses.now.pauses c.self.inside.tubes.now in
      let w : ℕ × SessionState = (c.in-Some.session, c.in-Some.holder.now) in
      let first : first_waiting (λ e. holds_by e.0 (s.now + 1) s.jobs) s.sessions ≡ Some w =
      ap₂ (λ jobs. first_waiting (λ e. holds_by e.0 (s.now + 1) jobs)) (sym c.map.ensures.jobs) (sym c.map-2.ensures.sessions) ∙
      sym c.in-Some.ensures.first in
      subst (λ (d : Draft QueueState). IsTurn deadline_turn d.now
      (state_of c.self.inside.counters c.self.inside.jobs.now c.set_wait.new.self.now c.self.inside.pauses.now.pauses c.self.inside.tubes.now)
      c.args.answers.now.items c.push.new.self.items true) c.self.view_is
      (told_deadline s w c.set_wait.new.self.now c.args.answers.now.items c.push.new.self.items first c.in_ok-set_wait.ensures.now
      (c.in_ok-push.ensures.items ∙
      ap (λ number. let a : Answer Reply =
      record { to = record { session = w.0; number = number }; reply = Reply.DeadlineSoon }
      in c.args.answers.now.items ++ a ∷ []) c.wait_number.ensures));
  before = search rules;
}

pub returns-clause-left : goal.returns-clause-left
returns-clause-left g c more =
    let s = state_of c.self.inside.counters c.self.inside.jobs.now c.self.inside.sessions.now c.self.inside.pauses.now.pauses c.self.inside.tubes.now in
    let ended = λ (sessions : List (ℕ × SessionState)). with_wait_ended c.in-Some.session sessions in
    subst (HasAllHolders c.next.new.self (s.now + 1) s.jobs) (sym c.in_ok-set_wait.ensures.now)
    (subst (λ sessions. HasAllHolders c.next.new.self (s.now + 1) s.jobs (ended sessions)) c.map-2.ensures.sessions
    (subst (λ jobs. HasAllHolders c.next.new.self (s.now + 1) jobs (ended c.map-2.result.now.entries)) c.map.ensures.jobs c.in-Some.ensures.left))

pub returns-in_err-push-clause-err : goal.returns-in_err-push-clause-err
returns-in_err-push-clause-err g c =
    let s = state_of c.self.inside.counters c.self.inside.jobs.now c.self.inside.sessions.now c.self.inside.pauses.now.pauses c.self.inside.tubes.now in
    let w : ℕ × SessionState = (c.in-Some.session, c.in-Some.holder.now) in
    let first : first_waiting (λ e. holds_by e.0 (s.now + 1) s.jobs) s.sessions ≡ Some w =
    ap₂ (λ jobs. first_waiting (λ e. holds_by e.0 (s.now + 1) jobs)) (sym c.map.ensures.jobs) (sym c.map-2.ensures.sessions) ∙
    sym c.in-Some.ensures.first in
    on_err c.from_residual.result (subst (λ (d : Draft QueueState). IsSome (deadline_turn d.now)) c.self.view_is (some-told_deadline s (ap is_some first)))

pub returns-in_err-set_wait-clause-err : goal.returns-in_err-set_wait-clause-err
returns-in_err-set_wait-clause-err g c =
    let s = state_of c.self.inside.counters c.self.inside.jobs.now c.self.inside.sessions.now c.self.inside.pauses.now.pauses c.self.inside.tubes.now in
    let w : ℕ × SessionState = (c.in-Some.session, c.in-Some.holder.now) in
    let first : first_waiting (λ e. holds_by e.0 (s.now + 1) s.jobs) s.sessions ≡ Some w =
    ap₂ (λ jobs. first_waiting (λ e. holds_by e.0 (s.now + 1) jobs)) (sym c.map.ensures.jobs) (sym c.map-2.ensures.sessions) ∙
    sym c.in-Some.ensures.first in
    on_err c.from_residual-in_err-set_wait.result (subst (λ (d : Draft QueueState). IsSome (deadline_turn d.now)) c.self.view_is (some-told_deadline s (ap is_some first)))
