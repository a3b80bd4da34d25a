use Rattle.std.proofs.Common.{subst}
use Rattle.forgetting_hall.specs.Halls.{IsForgettingHall}
use Rattle.forgetting_hall.proofs.Keeping.{opens, begun}
use Rattle.forgetting_hall.proofs.forgetting_hall.ForgettingHall.new.Goals as goal

pub invariant_of-result : goal.invariant_of-result
invariant_of-result g c = subst (IsForgettingHall g.O.Object.rules) (begun g.O.Object.rules c.args.members _ _ _ c.in_ok-new.ensures
    c.in_ok-new-2.ensures c.new-4.ensures.items)
    (opens g.O.Object.rules c.args.members (c.every_world.ensures.opening c.args.members) (c.halls_rest.ensures.opening c.args.members))
