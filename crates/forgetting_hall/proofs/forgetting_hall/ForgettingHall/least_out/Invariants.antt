use Rattle.forgetting_hall.proofs.Least.{IsLeastTo}
use Rattle.forgetting_hall.proofs.forgetting_hall.ForgettingHall.least_out.Given as goal

abbrev pub invariant-loop-before : goal.invariant-loop-before
invariant-loop-before g l = IsLeastTo g.O.Object.rules l.fn.self l.before l.least
