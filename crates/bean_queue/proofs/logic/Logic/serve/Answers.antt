use Rattle.std.proofs.Common.{◌∙◌}
use Rattle.bean_queue.specs.Turns.{serve_turn}
use Rattle.bean_queue.proofs.best.Served.{serves, turn_made, no_turn}
use Rattle.bean_queue.proofs.best.Turned.{still-begun}
use Rattle.bean_queue.proofs.logic.Logic.serve.Goals as goal

pub turns-smaller : goal.turns-smaller
turns-smaller g c = (turn_made serve_turn serves _ _ _ _ c.in_ok-serve_one.field-0 c.if-branch.true c.in_ok-serve_one.ensures.turn.turn).fewer

pub turns-preserved : goal.turns-preserved
turns-preserved g c =
    let r = turn_made serve_turn serves _ _ _ _ c.in_ok-serve_one.field-0 c.if-branch.true c.in_ok-serve_one.ensures.turn.turn in
    record {
      offers = c.in_ok-serve_one.ensures.offers;
      fronts = c.in_ok-serve_one.ensures.fronts;
      state = r.state ∙ c.turns.invariant.state;
      answers = r.answers ∙ c.turns.invariant.answers;
      before = c.serve_one.ensures.turn.before ∙ c.turns.invariant.before;
      begun = still-begun serve_turn c.args.self.now.now _ _ _ _ c.in_ok-serve_one.field-0 c.if-branch.true c.in_ok-serve_one.ensures.turn.turn c.turns.invariant.begun;
    }

pub returns-clause-turns : goal.returns-clause-turns
returns-clause-turns g c = record {
  state = (no_turn serve_turn serves _ _ _ _ c.in_ok-serve_one.field-0 c.if-branch.false c.in_ok-serve_one.ensures.turn.turn).state ∙ c.turns.invariant.state;
  answers = (no_turn serve_turn serves _ _ _ _ c.in_ok-serve_one.field-0 c.if-branch.false c.in_ok-serve_one.ensures.turn.turn).answers ∙ c.turns.invariant.answers;
  before = c.serve_one.ensures.turn.before ∙ c.turns.invariant.before;
}
