use Rattle.std.proofs.Common.{ap, ◌∙◌}
use Rattle.world.proofs.standing.Voters.{node_voted, none_anywhere, none_node}
use Rattle.world.proofs.world.World.voted_anywhere.Goals as goal

pub returns-in-Some-clause-some : goal.returns-in-Some-clause-some
returns-in-Some-clause-some g c =
    node_voted c.args.self.now.cluster c.deref-node-items.result.now
    (c.deref-node-items.ensures.value ∙ ap (λ k. k.cluster.nodes) c.self.view_is) c.loop-node.node-index
    c.node-item.result c.loop-node-test.true c.node-item.is c.accepted.result.now c.accepted.ensures c.args.slot
    c.in-Some.command.now c.in-Some.ensures.some

pub loop-node-preserved : goal.loop-node-preserved
loop-node-preserved g c = none_node c.args.self.now.cluster c.deref-node-items.result.now
    (c.deref-node-items.ensures.value ∙ ap (λ k. k.cluster.nodes) c.self.view_is) c.loop-node.node-index
    c.node-item.result c.loop-node-test.true c.node-item.is c.accepted.result.now c.accepted.ensures c.args.slot
    c.in_default.ensures.none c.loop-node.invariant

pub returns-clause-none : goal.returns-clause-none
returns-clause-none g c = none_anywhere c.args.self.now.cluster c.deref-node-items.result.now
    (c.deref-node-items.ensures.value ∙ ap (λ k. k.cluster.nodes) c.self.view_is) c.loop-node.node-index
    c.loop-node-test.false c.args.slot c.loop-node.invariant
