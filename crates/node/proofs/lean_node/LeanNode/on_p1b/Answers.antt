use Rattle.std.proofs.Common.{subst, ap}
use Rattle.leader.specs.Promises.{HearsP1b}
use Rattle.node.proofs.Received.{received_p1b}
use Rattle.node.proofs.lean_node.LeanNode.on_p1b.Goals as goal

pub returns-clause-ok : goal.returns-clause-ok
returns-clause-ok g c =
    received_p1b _ _ _ (ap (λ h. h.state) c.self.view_is) _ _ _ _ _
    (subst (λ ps. HearsP1b c.self.inside.leader c.args.«from» c.args.ballot ps c.hear_promise.new.leader
    c.args.out.now.items c.hear_promise.new.out.items) c.as_slice.ensures c.in_ok-hear_promise.ensures.hears)
