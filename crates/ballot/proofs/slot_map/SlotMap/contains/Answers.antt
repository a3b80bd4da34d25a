use Rattle.std.proofs.Common.{sym, ap, ◌∙◌}
use Rattle.std.specs.Prelude.{is_some}
use Rattle.std.specs.FinMap.{get}
use Rattle.ballot.specs.Slots.{Slots}
use Rattle.ballot.proofs.SlotMaps.{get_view}
use Rattle.ballot.proofs.slot_map.SlotMap.contains.Goals as goal

pub returns : goal.returns
returns g c =
    c.contains_key.ensures ∙ ap is_some (sym (get_view c.self.inside.entries.entries c.self.invariant c.args.slot)) ∙
    ap (λ (m : Slots g.row.X.Denot). is_some (get m c.args.slot)) c.self.view_is
