use Rattle.std.proofs.Common.{◌≡◌, ◌≤◌}
use Rattle.simulated_hall.proofs.carrier.Carrier.reply.Given as goal

abbrev pub invariant-loop : goal.invariant-loop
invariant-loop g l = (l.self.hall ≡ l.fn.self.hall) × (l.self.ticket ≡ l.fn.self.ticket) × (l.counter ≤ l.self.calls) × (l.fn.self.calls ≤ l.self.calls)
