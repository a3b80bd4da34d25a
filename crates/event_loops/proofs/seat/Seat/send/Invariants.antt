use Rattle.std.proofs.Common.{◌≡◌}
use Rattle.event_loops.proofs.seat.Seat.send.Given as goal

-- it rests on as much as before
abbrev pub invariant-loop : goal.invariant-loop
invariant-loop g l = l.self.owed ≡ l.fn.self.owed
