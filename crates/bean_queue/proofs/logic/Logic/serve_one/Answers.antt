use Rattle.std.proofs.Common.{◌≡◌, ◌∙◌, ℕ, ◌+◌, ◌^◌, true, ◌∷◌, [], ◌++◌, Some, None, IsSome, rules, refl, sym, ap, ap₂, subst}
use Rattle.job_store.specs.declared.job.Job.{Job}
use Rattle.job_store.specs.Entries.{Rising, altered}
use Rattle.job_store.specs.States.{reserved_job}
use Rattle.object.specs.declared.command.Answer.{Answer}
use Rattle.session_store.specs.declared.session.SessionState.{SessionState}
use Rattle.session_store.specs.Sessions.{first_waiting}
use Rattle.session_store.specs.Drafts.{Draft}
use Rattle.session_store.specs.Fronts.{AreFronts}
use Rattle.session_store.proofs.Served.{fronts-ended}
use Rattle.bean_words.specs.declared.reply.Reply.{Reply}
use Rattle.job_store.specs.LookUps.{is_among}
use Rattle.object.proofs.KeyMaps.{on_err}
use Rattle.bean_queue.specs.Queue.{QueueState, state_of}
use Rattle.bean_queue.specs.Turns.{IsTurn, next_job, serve_turn}
use Rattle.bean_queue.specs.Offers.{OffersJobsOf}
use Rattle.bean_queue.proofs.best.Offering.{served-offers}
use Rattle.bean_queue.proofs.best.Turned.{none-served, nobody-served, some-served, served}
use Rattle.bean_queue.proofs.logic.Logic.serve_one.Goals as goal

pub returns-in_default-clause-turn : goal.returns-in_default-clause-turn
returns-in_default-clause-turn g c = record {
  turn =
      let s = state_of c.self.inside.counters c.self.inside.jobs.now c.self.inside.sessions.now c.self.inside.pauses.now.pauses c.self.inside.tubes.now in
      let next : next_job s ≡ None = ap (λ (d : Draft QueueState). next_job d.now) c.self.view_is ∙ sym c.in_default.ensures.best in
      (ap (λ (d : Draft QueueState). serve_turn d.now) (sym c.self.view_is) ∙ none-served s next, refl, refl);
  before = refl;
}

pub returns-in_default-next_watcher-clause-turn : goal.returns-in_default-next_watcher-clause-turn
returns-in_default-next_watcher-clause-turn g c = record {
  turn =
      let s = state_of c.self.inside.counters c.self.inside.jobs.now c.self.inside.sessions.now c.self.inside.pauses.now.pauses c.self.inside.tubes.now in
      let j : ℕ × Job = (c.in-Some.id, c.in-Some.job.now) in
      let next : next_job s ≡ Some j = ap (λ (d : Draft QueueState). next_job d.now) c.self.view_is ∙ sym c.in-Some.ensures.best in
      let nobody : first_waiting (λ e. is_among j.1.tube e.1.watched) s.sessions ≡ None = sym c.in_default-next_watcher.ensures.first in
      (ap (λ (d : Draft QueueState). serve_turn d.now) (sym c.self.view_is) ∙ nobody-served s j next nobody, refl, refl);
  before = refl;
}

pub returns-clause-turn : goal.returns-clause-turn
returns-clause-turn g c = record {
  turn =
      let s = state_of c.self.inside.counters c.self.inside.jobs.now c.self.inside.sessions.now c.self.inside.pauses.now.pauses c.self.inside.tubes.now in
      let j : ℕ × Job = (c.in-Some.id, c.in-Some.job.now) in
      let w : ℕ × SessionState = (c.in-Some-next_watcher.session, c.in-Some-next_watcher.watcher.now) in
      let next : next_job s ≡ Some j = ap (λ (d : Draft QueueState). next_job d.now) c.self.view_is ∙ sym c.in-Some.ensures.best in
      let first : first_waiting (λ e. is_among j.1.tube e.1.watched) s.sessions ≡ Some w = sym c.in-Some-next_watcher.ensures.first in
      subst (λ (d : Draft QueueState). IsTurn serve_turn d.now
      (state_of c.self.inside.counters c.set_state.new.self.now c.set_wait.new.self.now
      c.self.inside.pauses.now.pauses c.self.inside.tubes.now) c.args.answers.now.items c.push.new.self.items true) c.self.view_is
      (served s j w c.set_state.new.self.now c.set_wait.new.self.now c.args.answers.now.items c.push.new.self.items next first
      (c.in_ok-set_state.ensures.now ∙ ap (λ ttr. altered j.0 (reserved_job w.0 (s.now + ttr)) s.jobs) c.from.ensures)
      c.in_ok-set_wait.ensures.now
      (c.in_ok-push.ensures.items ∙
      ap₂ (λ number body. let a : Answer Reply =
      record { to = record { session = w.0; number = number }; reply = Reply.Reserved j.0 body }
      in c.args.answers.now.items ++ a ∷ []) c.wait_number.ensures c.in_ok-body.ensures));
  before = search rules;
}

pub returns-clause-fronts : goal.returns-clause-fronts
returns-clause-fronts g c =
    subst (AreFronts c.next_watcher.new.fronts) (sym c.in_ok-set_wait.ensures.now)
    (fronts-ended c.in-Some-next_watcher.session c.self.inside.sessions.now c.next_watcher.new.fronts c.next_watcher.ensures.fronts)

pub returns-clause-offers : goal.returns-clause-offers
returns-clause-offers g c =
    let s = state_of c.self.inside.counters c.self.inside.jobs.now c.self.inside.sessions.now c.self.inside.pauses.now.pauses c.self.inside.tubes.now in
    let e : ℕ × Job = (c.in-Some.id, c.in-Some.job.now) in
    served-offers s c.next_job.new.offers c.replace.new.self e c.in-Some-next_watcher.session _ _
    c.set_state.new.self.now _ c.set_wait.new.self.now
    (subst (λ (d : Draft QueueState). Rising 0 (2 ^ 64) d.now.jobs) (sym c.self.view_is) c.next_job.ensures.ids_rise)
    (subst (λ (d : Draft QueueState). OffersJobsOf c.next_job.new.offers d.now) (sym c.self.view_is) c.next_job.ensures.offers)
    (ap (λ (d : Draft QueueState). next_job d.now) c.self.view_is ∙ sym c.in-Some.ensures.best)
    c.in_ok-set_state.ensures.now c.in_ok-set_wait.ensures.now c.map.ensures.jobs c.in_ok-replace.ensures

pub returns-in_err-body-clause-err : goal.returns-in_err-body-clause-err
returns-in_err-body-clause-err g c =
    let s = state_of c.self.inside.counters c.self.inside.jobs.now c.self.inside.sessions.now c.self.inside.pauses.now.pauses c.self.inside.tubes.now in
    let next = ap (λ (d : Draft QueueState). next_job d.now) c.self.view_is ∙ sym c.in-Some.ensures.best in
    on_err c.from_residual.result (subst (λ (d : Draft QueueState). IsSome (serve_turn d.now)) c.self.view_is
    (some-served s (c.in-Some.id, c.in-Some.job.now) _ next (sym c.in-Some-next_watcher.ensures.first)))

pub returns-in_err-push-clause-err : goal.returns-in_err-push-clause-err
returns-in_err-push-clause-err g c =
    let s = state_of c.self.inside.counters c.self.inside.jobs.now c.self.inside.sessions.now c.self.inside.pauses.now.pauses c.self.inside.tubes.now in
    let next = ap (λ (d : Draft QueueState). next_job d.now) c.self.view_is ∙ sym c.in-Some.ensures.best in
    on_err c.from_residual-in_err-push.result (subst (λ (d : Draft QueueState). IsSome (serve_turn d.now)) c.self.view_is
    (some-served s (c.in-Some.id, c.in-Some.job.now) _ next (sym c.in-Some-next_watcher.ensures.first)))

pub returns-in_err-set_state-clause-err : goal.returns-in_err-set_state-clause-err
returns-in_err-set_state-clause-err g c =
    let s = state_of c.self.inside.counters c.self.inside.jobs.now c.self.inside.sessions.now c.self.inside.pauses.now.pauses c.self.inside.tubes.now in
    let next = ap (λ (d : Draft QueueState). next_job d.now) c.self.view_is ∙ sym c.in-Some.ensures.best in
    on_err c.from_residual-in_err-set_state.result (subst (λ (d : Draft QueueState). IsSome (serve_turn d.now)) c.self.view_is
    (some-served s (c.in-Some.id, c.in-Some.job.now) _ next (sym c.in-Some-next_watcher.ensures.first)))

pub returns-in_err-set_wait-clause-err : goal.returns-in_err-set_wait-clause-err
returns-in_err-set_wait-clause-err g c =
    let s = state_of c.self.inside.counters c.self.inside.jobs.now c.self.inside.sessions.now c.self.inside.pauses.now.pauses c.self.inside.tubes.now in
    let next = ap (λ (d : Draft QueueState). next_job d.now) c.self.view_is ∙ sym c.in-Some.ensures.best in
    on_err c.from_residual-in_err-set_wait.result (subst (λ (d : Draft QueueState). IsSome (serve_turn d.now)) c.self.view_is
    (some-served s (c.in-Some.id, c.in-Some.job.now) _ next (sym c.in-Some-next_watcher.ensures.first)))

pub returns-in_err-replace-clause-err : goal.returns-in_err-replace-clause-err
returns-in_err-replace-clause-err g c =
    let s = state_of c.self.inside.counters c.self.inside.jobs.now c.self.inside.sessions.now c.self.inside.pauses.now.pauses c.self.inside.tubes.now in
    let next = ap (λ (d : Draft QueueState). next_job d.now) c.self.view_is ∙ sym c.in-Some.ensures.best in
    on_err c.from_residual-in_err-replace.result (subst (λ (d : Draft QueueState). IsSome (serve_turn d.now)) c.self.view_is
    (some-served s (c.in-Some.id, c.in-Some.job.now) _ next (sym c.in-Some-next_watcher.ensures.first)))
