use Rattle.std.proofs.Common.{ap}
use Rattle.node.proofs.Received.{received_decision}
use Rattle.node.proofs.lean_node.LeanNode.on_decision.Goals as goal

pub returns-clause-ok : goal.returns-clause-ok
returns-clause-ok g c = received_decision _ _ _ (ap (λ h. h.state) c.self.view_is) _ _ _ _ (ap (λ r. r.slots) c.in_ok-learn.ensures.state.0)
