use Rattle.std.proofs.Common.{rules, ap}
use Rattle.node.proofs.Received.{received_p2a}
use Rattle.node.proofs.lean_node.LeanNode.on_p2a.Goals as goal

pub returns-clause-ok : goal.returns-clause-ok
returns-clause-ok g c = received_p2a _ _ _ (ap (λ h. h.state) c.self.view_is) c.ballot_laws.ensures _ _ _ _ _ _ c.node-number.ensures.node
    c.in_ok-ballot.ensures.state c.in_ok-ballot.ensures.promised (search rules)
