use Rattle.std.proofs.Common.{IsSome, subst, ◌∙◌}
use Rattle.object.proofs.KeyMaps.{on_err}
use Rattle.session_store.specs.Drafts.{Draft}
use Rattle.bean_queue.specs.Queue.{QueueState, state_of}
use Rattle.bean_queue.specs.Turns.{timeout_turn}
use Rattle.bean_queue.proofs.best.Served.{tells_timeout, turn_made, no_turn}
use Rattle.bean_queue.proofs.best.Turned.{still-begun, some-told_timeout}
use Rattle.bean_queue.proofs.logic.Logic.tell_timeouts.Goals as goal

pub turns-smaller : goal.turns-smaller
turns-smaller g c = (turn_made timeout_turn tells_timeout _ _ _ _ c.in_ok-tell_timeout.field-0 c.if-branch.true c.in_ok-tell_timeout.ensures.turn.turn).fewer

pub turns-preserved : goal.turns-preserved
turns-preserved g c =
    let r = turn_made timeout_turn tells_timeout _ _ _ _ c.in_ok-tell_timeout.field-0 c.if-branch.true c.in_ok-tell_timeout.ensures.turn.turn in
    record {
      late = c.in_ok-tell_timeout.ensures.left c.if-branch.true;
      state = r.state ∙ c.turns.invariant.state;
      answers = r.answers ∙ c.turns.invariant.answers;
      before = c.tell_timeout.ensures.turn.before ∙ c.turns.invariant.before;
      begun = still-begun timeout_turn c.args.self.now.now _ _ _ _ c.in_ok-tell_timeout.field-0 c.if-branch.true c.in_ok-tell_timeout.ensures.turn.turn c.turns.invariant.begun;
    }

pub returns-clause-turns : goal.returns-clause-turns
returns-clause-turns g c = record {
  state =
      (no_turn timeout_turn tells_timeout _ _ _ _ c.in_ok-tell_timeout.field-0 c.if-branch.false
      c.in_ok-tell_timeout.ensures.turn.turn).state ∙ c.turns.invariant.state;
  answers =
      (no_turn timeout_turn tells_timeout _ _ _ _ c.in_ok-tell_timeout.field-0 c.if-branch.false
      c.in_ok-tell_timeout.ensures.turn.turn).answers ∙ c.turns.invariant.answers;
  before = c.tell_timeout.ensures.turn.before ∙ c.turns.invariant.before;
}

pub returns-in_err-late-clause-err : goal.returns-in_err-late-clause-err
returns-in_err-late-clause-err g c =
    let s = state_of c.self.inside.counters c.self.inside.jobs.now c.self.inside.sessions.now c.self.inside.pauses.now.pauses c.self.inside.tubes.now in
    on_err c.from_residual.result
    (subst (λ (d : Draft QueueState). IsSome (timeout_turn d.now)) c.self.view_is (some-told_timeout s c.in_err-late.ensures.err))
