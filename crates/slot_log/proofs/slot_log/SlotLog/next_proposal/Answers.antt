use Rattle.std.proofs.Common.{sym}
use Rattle.slot_log.proofs.OpenSlots.{open_is}
use Rattle.slot_log.proofs.slot_log.SlotLog.next_proposal.Goals as goal

pub returns-clause-least : goal.returns-clause-least
returns-clause-least g c = open_is c.args.self.now c.in_ok-slot.slot (sym c.in_ok-slot.ensures)
