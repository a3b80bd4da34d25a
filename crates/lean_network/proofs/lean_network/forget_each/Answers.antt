use Rattle.std.proofs.Common.{ap, ◌∙◌, arith}
use Rattle.std.specs.Prelude.{slice_index_or, slice_set}
use Rattle.lean_network.specs.LeanNetworks.{rest_of_holding}
use Rattle.lean_network.proofs.Forgetting.{begun_next, begun_more, begun_all}
use Rattle.lean_network.proofs.lean_network.forget_each.Goals as goal

pub forget-requires : goal.forget-requires
forget-requires g c = c.requires c.loop-place.place c.index_mut.result.now
    (omega (arith, c.loop-place-test.true, c.len-place-end.ensures, c.args.nodes.now.ok.0))
    (c.index_mut.ensures.value
    ∙ ap (λ ns. slice_index_or ns c.loop-place.place c.index_mut.result.now) c.loop-place.invariant
    ∙ begun_next (rest_of_holding c.args.base) c.loop-place.place c.args.nodes.now.items c.index_mut.result.now)

pub loop-place-preserved : goal.loop-place-preserved
loop-place-preserved g c =
    ap (λ ns. slice_set ns c.loop-place.place c.forget.new.self) c.loop-place.invariant
    ∙ begun_more (rest_of_holding c.args.base) c.loop-place.place c.args.nodes.now.items c.index_mut.result.now
    c.forget.new.self
    (omega (arith, c.loop-place-test.true, c.len-place-end.ensures, c.args.nodes.now.ok.0))
    (c.index_mut.ensures.value ∙ ap (λ ns. slice_index_or ns c.loop-place.place c.index_mut.result.now) c.loop-place.invariant)
    c.forget.ensures

pub returns : goal.returns
returns g c =
    c.loop-place.invariant
    ∙ begun_all (rest_of_holding c.args.base) c.loop-place.place c.args.nodes.now.items
    (omega (arith, c.loop-place-test.false, c.loop-place.auto.place-end, c.len-place-end.ensures, c.args.nodes.now.ok.0))
