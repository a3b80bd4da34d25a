use Rattle.std.proofs.Common.{◌≡◌}
use Rattle.node_threads.proofs.attendant.AttendantService.close.Given as goal

abbrev pub invariant-loop : goal.invariant-loop
invariant-loop g l =
    (goal.iterator-loop g).can_next l.iterator' × (goal.iterator-loop g).is_finite l.iterator'
    × (l.self.ticket ≡ l.fn.self.ticket) × (l.self.commands.amount ≡ l.fn.self.commands.amount)
