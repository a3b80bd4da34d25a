use Rattle.std.proofs.Common.{◌≡◌, ◌≤◌}
use Rattle.simulated_hall.specs.Standing.{SubmitsNothing}
use Rattle.simulated_hall.proofs.carrier.Carrier.place.Given as goal

abbrev pub invariant-loop-count : goal.invariant-loop-count
invariant-loop-count g l = SubmitsNothing l.fn.self.hall.nodes.past l.self.hall.nodes.past
    × (l.self.ticket ≡ l.fn.self.ticket) × (l.count ≤ l.self.calls) × (l.fn.self.calls ≤ l.self.calls)
