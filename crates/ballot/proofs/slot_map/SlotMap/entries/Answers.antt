use Rattle.std.proofs.Common.{sym, ap, ◌∙◌}
use Rattle.std.specs.Ordering.{nat_cmp}
use Rattle.std.specs.FinMap.{entries, entries-from_sorted}
use Rattle.ballot.specs.Slots.{Slots}
use Rattle.ballot.proofs.slot_map.SlotMap.entries.Goals as goal

pub returns : goal.returns
returns g c =
    sym (entries-from_sorted nat_cmp c.self.inside.entries.entries c.self.invariant) ∙ ap (λ (m : Slots g.row.X.Denot). entries m) c.self.view_is
