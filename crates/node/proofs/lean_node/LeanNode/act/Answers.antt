use Rattle.std.proofs.Common.{sym, ap, ◌∙◌}
use Rattle.node.specs.Holding.{own_turn_held}
use Rattle.node.proofs.Asked.{requested_held}
use Rattle.node.proofs.lean_node.LeanNode.act.Goals as goal

pub returns-in_ok-request-in-Request-clause-state :
    goal.returns-in_ok-request-in-Request-clause-state
returns-in_ok-request-in-Request-clause-state g c = (
  requested_held g.O.Object.rules _ g.met.O.Object.same _ _ _ c.self.inside.replica _ c.in-Request.command
      c.in_ok-request-in-Request.ensures.state.0 _ c.self.view_is
      ∙ ap (λ d. (own_turn_held g.O.Object.rules c.args.self.now d).state) (sym c.in-Request.is),
  tt,
)
