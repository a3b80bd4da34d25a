use Rattle.std.proofs.Common.{[], ◌∷◌, ◌++◌, ap₂, sym, ◌∙◌}
use Rattle.std.proofs.lemmas.List.{take_more}
use Rattle.world.proofs.world.copying.copy_nodes.Goals as goal

pub loop-node-preserved : goal.loop-node-preserved
loop-node-preserved g c =
    c.in_ok-push.ensures.items ∙
    ap₂ (λ ns n. ns ++ n ∷ []) c.loop-node.invariant (c.in_ok-copy.ensures ∙ c.node-item.is) ∙
    sym (take_more c.args.nodes.now c.loop-node.node-index c.node-item.result c.loop-node-test.true)
