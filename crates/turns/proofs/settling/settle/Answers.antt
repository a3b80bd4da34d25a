use Rattle.std.proofs.Common.{◌≡◌, ◌∙◌, Ok, false, inl, inr, sym, ap, arith}
use Rattle.turns.proofs.Round.{IsNext, TakesTurn, goes_round, none_works}
use Rattle.turns.proofs.settling.settle.Goals as goal
use Rattle.turns.proofs.settling.settle.Goals.{then-branch, else-branch, then-node-count, else-node-count}

pub returns-then-calm-count-clause-goes_on : goal.returns-then-calm-count-clause-goes_on
returns-then-calm-count-clause-goes_on g c = g.N.Nodes.further _ _ _ c.loop.invariant.1 c.take_turn.ensures.goes_on

pub returns-then-calm-count-clause-calm : goal.returns-then-calm-count-clause-calm
returns-then-calm-count-clause-calm g c = λ ok n above below.
    let many : g.N.Nodes.node_count c.take_turn.new.nodes ≡ c.count-count.result =
    g.N.Nodes.as_many _ _ (returns-then-calm-count-clause-goes_on g c) ∙ sym c.loop.invariant.2 in
    let turn : TakesTurn c.loop.node c.loop.calm c.if-branch.calm (g.N.Nodes.work_of c.loop.nodes) (g.N.Nodes.work_of c.take_turn.new.nodes) =
    elim c.if-branch.branch [
      | then-branch w ↦ inl w.calm-is
      | else-branch w ↦
          let calm : c.take_turn.result ≡ Ok false = c.in_ok-take_turn.was ∙ ap Ok w.if-branch.false in
          inr (omega (arith, w.calm-is, w.saturating_add-calm.ensures), c.take_turn.ensures.calm calm, c.take_turn.ensures.idle calm)
    ] in
    none_works _ _ _ _ _ _ c.loop.invariant.3 turn c.if-calm-count.true n above (omega (arith, below, many))

pub loop-preserved : goal.loop-preserved
loop-preserved g c =
    let turn : TakesTurn c.loop.node c.loop.calm c.if-branch.calm (g.N.Nodes.work_of c.loop.nodes) (g.N.Nodes.work_of c.take_turn.new.nodes) =
    elim c.if-branch.branch [
      | then-branch w ↦ inl w.calm-is
      | else-branch w ↦
          let calm : c.take_turn.result ≡ Ok false = c.in_ok-take_turn.was ∙ ap Ok w.if-branch.false in
          inr (omega (arith, w.calm-is, w.saturating_add-calm.ensures), c.take_turn.ensures.calm calm, c.take_turn.ensures.idle calm)
    ] in
    let next : IsNext c.count-count.result c.loop.node c.if-node-count.node =
    elim c.if-node-count.branch [
      | then-node-count w ↦ inl (w.if-node-count.true, w.node-is)
      | else-node-count w ↦ inr (w.if-node-count.false, w.node-is)
    ] in (
      c.take_turn.ensures.kept ∙ c.loop.invariant.0,
      g.N.Nodes.further _ _ _ c.loop.invariant.1 c.take_turn.ensures.goes_on,
      c.loop.invariant.2,
      goes_round _ _ _ _ _ _ c.loop.invariant.3 _ turn next,
    )
