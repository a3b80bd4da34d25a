use Rattle.std.proofs.Common.{subst, arith}
use Rattle.std.proofs.lemmas.Bool.Decides.{nat_tests}
use Rattle.object.specs.NumberMaps.{Rises, IsAt}
use Rattle.object.proofs.NumberMaps.{value_absent, value_taken, none_before, none_in_gap, rises_taken}
use Rattle.object.proofs.number_map.NumberMap.remove.Goals as goal

pub invariant_of-self : goal.invariant_of-self
invariant_of-self g c =
    let es = c.self.inside.pairs.items in
    let at : IsAt es c.args.number c.in-Ok.place = rw c.self.view_is c.in-Ok.ensures.found in
    rw c.remove.ensures.items (rises_taken es c.self.invariant c.args.number c.in-Ok.place at)

pub returns-in-Ok : goal.returns-in-Ok
returns-in-Ok g c =
    let at = c.in-Ok.ensures.found in
    let rises = subst Rises c.self.view_is c.self.invariant in
    rw (c.remove.ensures.items, c.self.view_is) (value_taken _ _ _ rises at (none_before _ rises _ _ at))

-- it had none
pub returns-in_default : goal.returns-in_default
returns-in_default g c q =
    let none = value_absent _ _ (none_in_gap _ _ _ c.in_default.ensures.absent) in
    grind (arith, nat_tests, none)
