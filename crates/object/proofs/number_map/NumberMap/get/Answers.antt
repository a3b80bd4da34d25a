use Rattle.std.proofs.Common.{sym, subst, arith}
use Rattle.object.specs.NumberMaps.{Rises}
use Rattle.object.proofs.NumberMaps.{value_present, value_absent, none_before, none_in_gap}
use Rattle.object.proofs.number_map.NumberMap.get.Goals as goal

pub returns-in-Ok : goal.returns-in-Ok
returns-in-Ok g c =
    let rises = subst Rises c.self.view_is c.self.invariant in
    let at = c.in-Ok.ensures.found in
    let value = value_present _ _ _ c.index.result.now at (none_before _ rises _ _ at) in
    grind (arith, c.self.view_is, value)

pub returns-in-Err : goal.returns-in-Err
returns-in-Err g c = sym (value_absent _ _ (none_in_gap _ _ _ c.in-Err.ensures.absent))
