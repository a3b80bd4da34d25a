use Rattle.std.proofs.Common.{◌≡◌, ◌+◌, vec_len, vec_capacity}
use Rattle.node_threads.proofs.staff.start_nodes_and_clock.Given as goal

-- so many nodes have a thread
abbrev pub invariant-loop-before : goal.invariant-loop-before
invariant-loop-before g l = (vec_len l.crew ≡ vec_len l.initial.crew + l.before) × (vec_capacity l.crew ≡ vec_capacity l.initial.crew)
