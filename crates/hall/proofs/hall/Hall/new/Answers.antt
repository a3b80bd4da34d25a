use Rattle.hall.proofs.Halls.{new_as}
use Rattle.hall.proofs.hall.Hall.new.Goals as goal

pub invariant_of-result : goal.invariant_of-result
invariant_of-result g c = new_as g.O.Object.rules c.laws_below.ensures c.args.members _ _ c.in_ok-new.ensures c.new-2.ensures.items
