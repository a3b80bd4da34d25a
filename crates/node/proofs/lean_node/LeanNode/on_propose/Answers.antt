use Rattle.std.proofs.Common.{ap}
use Rattle.node.proofs.Received.{received_proposal}
use Rattle.node.proofs.lean_node.LeanNode.on_propose.Goals as goal

pub returns-clause-ok : goal.returns-clause-ok
returns-clause-ok g c = received_proposal _ _ _ (ap (λ h. h.state) c.self.view_is) _ _ _ _ _
    c.in_ok-hear_proposal.ensures.state.0 c.in_ok-hear_proposal.ensures.out.0
