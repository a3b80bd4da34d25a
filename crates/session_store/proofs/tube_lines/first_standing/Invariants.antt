use Rattle.std.proofs.Common.{◌≡◌, filter_map}
use Rattle.session_store.specs.Lines.{line_from, waiter_at}
use Rattle.session_store.proofs.tube_lines.first_standing.Given as goal

abbrev pub invariant-loop-place : goal.invariant-loop-place
invariant-loop-place l =
    filter_map (waiter_at l.tube l.sessions.entries) l.place-iterator ≡ filter_map (waiter_at l.tube l.sessions.entries) (line_from l.fn.front l.line)
