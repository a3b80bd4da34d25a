use Rattle.std.proofs.Common.{ap}
use Rattle.node.proofs.Received.{received_p2b}
use Rattle.node.proofs.lean_node.LeanNode.on_p2b.Goals as goal

pub returns-clause-ok : goal.returns-clause-ok
returns-clause-ok g c = received_p2b _ _ _ (ap (λ h. h.state) c.self.view_is) _ _ _ _ _ _ c.in_ok-hear_vote.ensures.state.0 c.in_ok-hear_vote.ensures.out.0
