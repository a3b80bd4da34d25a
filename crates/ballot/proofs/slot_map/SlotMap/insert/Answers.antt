use Rattle.std.proofs.Common.{ap, ◌∙◌}
use Rattle.std.specs.FinMap.{insert}
use Rattle.ballot.specs.Slots.{Slots}
use Rattle.ballot.proofs.SlotMaps.{sorted_from, insert_view}
use Rattle.ballot.proofs.slot_map.SlotMap.insert.Goals as goal

pub invariant_of-self-2 : goal.invariant_of-self-2
invariant_of-self-2 g c = sorted_from c.insert.new.self.entries c.insert.ensures.ordered

pub returns : goal.returns
returns g c = record {
  ok = (
    insert_view c.self.inside.entries.entries c.insert.new.self.entries c.self.invariant
        (sorted_from c.insert.new.self.entries c.insert.ensures.ordered) c.args.slot c.args.value
        c.in_ok-insert.ensures.updates.0 ∙
        ap (λ (m : Slots g.row.X.Denot). insert m c.args.slot c.args.value) c.self.view_is,
    tt,
  );
}
