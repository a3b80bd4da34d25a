use Rattle.std.proofs.Common.{rules, ap}
use Rattle.node.proofs.Received.{received_p1a}
use Rattle.node.proofs.lean_node.LeanNode.on_p1a.Goals as goal

pub returns-clause-ok : goal.returns-clause-ok
returns-clause-ok g c = received_p1a _ _ _ (ap (λ h. h.state) c.self.view_is) c.ballot_laws.ensures _ _ _ _ _ _ _ c.node-number.ensures.node
    c.in_ok-promised.ensures.state.0 c.in_ok-promised.ensures.promised c.in_ok-promised.ensures.report (search rules)
