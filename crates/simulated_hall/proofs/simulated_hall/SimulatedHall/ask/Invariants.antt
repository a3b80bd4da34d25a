use Rattle.std.proofs.Common.{◌≡◌, ◌+◌, ◌-◌}
use Rattle.hall.specs.Tickets.{last_key}
use Rattle.simulated_hall.specs.OneClient.{Talk, Said, waited, answered}
use Rattle.simulated_hall.specs.Standing.{StandsFor, IsSaid}
use Rattle.simulated_hall.proofs.simulated_hall.SimulatedHall.ask.Given as goal

abbrev pub invariant-loop : goal.invariant-loop
invariant-loop g l = record {
  second : l.self.second ≡ l.fn.self.second + l.counter;
  said : (t : Talk _) → StandsFor g.O.Object.rules l.fn.self t
      → (s : Said _ _)
      × IsSaid g.O.Object.rules l.self s l.reply
      × (waited g.O.Object.rules (last_key l.self.ticket) (3600 - l.counter) s ≡ answered g.O.Object.rules t l.fn.op);
}
