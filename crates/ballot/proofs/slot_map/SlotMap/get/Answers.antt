use Rattle.std.proofs.Common.{sym, ap, ◌∙◌}
use Rattle.std.specs.FinMap.{get}
use Rattle.ballot.specs.Slots.{Slots}
use Rattle.ballot.proofs.SlotMaps.{get_view}
use Rattle.ballot.proofs.slot_map.SlotMap.get.Goals as goal

pub returns : goal.returns
returns g c =
    c.get.ensures.value ∙ sym (get_view c.self.inside.entries.entries c.self.invariant c.args.slot) ∙
    ap (λ (m : Slots g.row.X.Denot). get m c.args.slot) c.self.view_is
