use Rattle.ballot.proofs.SlotRows.{with_nothing}
use Rattle.ballot.proofs.slot_row.SlotRow.from_map.Goals as goal

pub returns : goal.returns
returns g c = with_nothing 1 c.new.result.items c.args.values c.new.ensures.items
