use Rattle.std.proofs.Common.{◌≡◌}
use Rattle.std.specs.FinMap.{entries}
use Rattle.std.specs.List.{list_all}
use Rattle.replica.specs.CatchingUp.{is_in_vain}
use Rattle.replica.proofs.replica.Replica.has_proposed_in_vain.Given as goal

-- those that were looked at are in vain
abbrev pub invariant-loop-proposed : goal.invariant-loop-proposed
invariant-loop-proposed g l =
    list_all (is_in_vain l.slot l.object) (entries l.self.slots.proposals)
    ≡ list_all (is_in_vain l.slot l.object) l.proposed-iterator
