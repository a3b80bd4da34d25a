use Rattle.std.proofs.Common.{subst, IsSome}
use mathlib.Core.Bool.{false≢true}
use Rattle.object.specs.NumberMaps.{Rises}
use Rattle.object.proofs.NumberMaps.{value_absent, value_set, none_before, none_in_gap, rises_set}
use Rattle.object.proofs.number_map.NumberMap.replace.Goals as goal

pub unreachable-requires : goal.unreachable-requires
unreachable-requires g c =
    absurd (false≢true (subst IsSome (value_absent _ _ (none_in_gap _ _ _ c.in-Err.ensures.absent)) c.requires))

pub invariant_of-self : goal.invariant_of-self
invariant_of-self g c = rises_set _ c.self.invariant _ _ (rw c.self.view_is c.in-Ok.ensures.found) _

pub returns : goal.returns
returns g c =
    let at = c.in-Ok.ensures.found in
    rw c.self.view_is (value_set _ _ _ _ at (none_before _ (subst Rises c.self.view_is c.self.invariant) _ _ at))
