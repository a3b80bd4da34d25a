use Rattle.std.proofs.Common.{List, length, sym, ap, ◌∙◌}
use Rattle.std.specs.Ordering.{nat_cmp}
use Rattle.std.specs.FinMap.{len, len-entries, from_sorted, entries-from_sorted}
use Rattle.ballot.specs.Slots.{Slots}
use Rattle.ballot.proofs.slot_map.SlotMap.len.Goals as goal

pub returns-clause-len : goal.returns-clause-len
returns-clause-len g c =
    c.len.ensures.len ∙
    ap (λ (es : List _). length es) (sym (entries-from_sorted nat_cmp c.self.inside.entries.entries c.self.invariant)) ∙
    sym (len-entries (from_sorted {R = nat_cmp} c.self.inside.entries.entries)) ∙
    ap (λ (m : Slots g.row.X.Denot). len m) c.self.view_is
