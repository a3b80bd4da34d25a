use Rattle.ballot.proofs.SlotMaps.{empty_view}
use Rattle.ballot.proofs.slot_map.SlotMap.new.Goals as goal

pub returns : goal.returns
returns g c = empty_view c.new.result.entries c.new.ensures.empty
