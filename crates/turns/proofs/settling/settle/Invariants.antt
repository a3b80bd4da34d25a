use Rattle.std.proofs.Common.{◌≡◌}
use Rattle.turns.proofs.Round.{IsRound}
use Rattle.turns.proofs.settling.settle.Given as goal

-- nothing more was handed in, what each turn keeps is kept, and so many nodes before this one have nothing to do
abbrev pub invariant-loop : goal.invariant-loop
invariant-loop g l =
    (g.N.Nodes.handed_in l.nodes ≡ g.N.Nodes.handed_in l.fn.nodes)
    × g.N.Nodes.goes_on l.fn.nodes l.nodes
    × (l.count ≡ g.N.Nodes.node_count l.fn.nodes)
    × IsRound l.count l.node l.calm (g.N.Nodes.work_of l.nodes)
