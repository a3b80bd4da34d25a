use Rattle.recovery.proofs.steps.settle_all.Given as goal

abbrev pub invariant-loop : goal.invariant-loop
invariant-loop g l = g.N.Nodes.goes_on l.fn.hall l.hall
