use Rattle.std.proofs.Common.{sym, ap, ◌∙◌}
use Rattle.std.specs.FinMap.{get, remove}
use Rattle.ballot.specs.Slots.{Slots}
use Rattle.ballot.proofs.SlotMaps.{sorted_from, get_view, remove_view}
use Rattle.ballot.proofs.slot_map.SlotMap.remove.Goals as goal

pub invariant_of-self : goal.invariant_of-self
invariant_of-self g c = sorted_from c.remove.new.self.entries c.remove.ensures.ordered

pub returns-clause-value : goal.returns-clause-value
returns-clause-value g c =
    c.remove.ensures.value ∙ sym (get_view c.self.inside.entries.entries c.self.invariant c.args.slot) ∙
    ap (λ (m : Slots g.row.X.Denot). get m c.args.slot) c.self.view_is

pub returns-clause-rest : goal.returns-clause-rest
returns-clause-rest g c =
    remove_view c.self.inside.entries.entries c.remove.new.self.entries c.self.invariant
    (sorted_from c.remove.new.self.entries c.remove.ensures.ordered) c.args.slot
    (λ q. c.remove.ensures.updates.0 q) ∙
    ap (λ (m : Slots g.row.X.Denot). remove m c.args.slot) c.self.view_is
