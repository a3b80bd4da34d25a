use Rattle.std.proofs.Common.{◌∙◌}
use Rattle.turns.proofs.watch.perform.Goals as goal

pub returns-in_err-perform-clause-goes_on : goal.returns-in_err-perform-clause-goes_on
returns-in_err-perform-clause-goes_on g c = g.N.Nodes.further _ _ _ c.loop.invariant.1 c.perform.ensures.goes_on

pub loop-preserved : goal.loop-preserved
loop-preserved g c = (c.perform.ensures.kept ∙ c.loop.invariant.0, g.N.Nodes.further _ _ _ c.loop.invariant.1 c.perform.ensures.goes_on)
