use Rattle.std.proofs.Common.{subst}
use Rattle.object.specs.NumberMaps.{Rises}
use Rattle.object.proofs.NumberMaps.{value_set, value_put, none_before, none_before_gap, rises_set, rises_put}
use Rattle.object.proofs.number_map.NumberMap.insert.Goals as goal

-- the number was there, and its pair is written over
pub invariant_of-self : goal.invariant_of-self
invariant_of-self g c = rises_set _ c.self.invariant _ _ (rw c.self.view_is c.in-Ok.ensures.found) _

pub returns-in-Ok-clause-ok : goal.returns-in-Ok-clause-ok
returns-in-Ok-clause-ok g c =
    let at = c.in-Ok.ensures.found in
    rw c.self.view_is (value_set _ _ _ _ at (none_before _ (subst Rises c.self.view_is c.self.invariant) _ _ at))

-- the pair is put into the gap
pub invariant_of-self-in-Continue-1 : goal.invariant_of-self-in-Continue-1
invariant_of-self-in-Continue-1 g c =
    rw c.in_ok-insert-in-Err.ensures.items (rises_put _ _ _ (rw c.self.view_is c.in-Err.ensures.absent) _ c.self.invariant)

pub returns-in_ok-insert-in-Err-clause-ok : goal.returns-in_ok-insert-in-Err-clause-ok
returns-in_ok-insert-in-Err-clause-ok g c =
    rw (c.in_ok-insert-in-Err.ensures.items, c.self.view_is) (value_put _ _ _ _ (none_before_gap _ _ _ c.in-Err.ensures.absent))
