use Rattle.std.proofs.Common.{◌≡◌}
use Rattle.turns.proofs.settling.propose.Given as goal

-- nothing more was handed in, what each turn keeps is kept, and at first nothing was done
abbrev pub invariant-loop-count : goal.invariant-loop-count
invariant-loop-count g l =
    (g.N.Nodes.handed_in l.nodes ≡ g.N.Nodes.handed_in l.fn.nodes)
    × g.N.Nodes.goes_on l.fn.nodes l.nodes
    × (l.count ≡ 0 → l.nodes ≡ l.fn.nodes)
