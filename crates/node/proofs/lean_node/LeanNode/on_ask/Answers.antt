use Rattle.std.proofs.Common.{◌∙◌, ap, ◌++◌, map}
use Rattle.ballot.specs.Letters.{letter}
use Rattle.node.proofs.Received.{received_ask}
use Rattle.node.proofs.lean_node.LeanNode.on_ask.Goals as goal

pub returns-clause-ok : goal.returns-clause-ok
returns-clause-ok g c = received_ask _ _ _ (ap (λ h. h.state) c.self.view_is) _ _ _ _ c.node.ensures.node
    (c.in_ok-send_each.ensures.ok.0 ∙ ap
    (λ bs. c.args.out.now.items ++ map (λ b. letter c.node.result b c.args.«from») bs) c.in_ok-told.ensures)
