use Rattle.std.proofs.Common.{◌≡◌}
use Rattle.node_threads.proofs.staff.Door.let_in.Given as goal

-- no call failed
abbrev pub invariant-loop : goal.invariant-loop
invariant-loop g l =
    (goal.iterator-loop g).can_next l.iterator' × (goal.iterator-loop g).is_finite l.iterator'
    × (g.A.Accept.has_failed l.accept ≡ g.A.Accept.has_failed l.initial.accept)
