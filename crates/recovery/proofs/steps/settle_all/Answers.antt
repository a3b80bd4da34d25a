use Rattle.std.proofs.Common.{Ok, ap, ◌∙◌}
use Rattle.recovery.proofs.steps.settle_all.Goals as goal

pub loop-preserved : goal.loop-preserved
loop-preserved g c = g.N.Nodes.further _ _ _ c.loop.invariant c.settle.ensures.goes_on

pub returns-then-branch-clause-goes_on : goal.returns-then-branch-clause-goes_on
returns-then-branch-clause-goes_on g c = g.N.Nodes.further _ _ _ c.loop.invariant c.settle.ensures.goes_on

pub returns-then-branch-clause-calm : goal.returns-then-branch-clause-calm
returns-then-branch-clause-calm g c = c.settle.ensures.calm (c.in_ok-settle.was ∙ ap Ok c.if-branch.true)
