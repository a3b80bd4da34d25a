use Rattle.turns.proofs.settling.perform.Goals as goal

pub returns-in_err-perform-clause-goes_on : goal.returns-in_err-perform-clause-goes_on
returns-in_err-perform-clause-goes_on g c = g.N.Nodes.further _ _ _ c.loop-count.invariant.1 c.perform.ensures.goes_on

pub returns-then-not-branch-clause-goes_on : goal.returns-then-not-branch-clause-goes_on
returns-then-not-branch-clause-goes_on g c = g.N.Nodes.further _ _ _ c.loop-count.invariant.1 c.perform.ensures.goes_on
