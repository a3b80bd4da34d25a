use Rattle.std.proofs.Common.{◌≡◌, take}
use Rattle.ballot.specs.SlotRows.{with_row}
use Rattle.ballot.proofs.slot_row.copy_row.Given as goal

-- the map has what stands before the place
abbrev pub invariant-loop-place : goal.invariant-loop-place
invariant-loop-place g l = l.map ≡ with_row l.first (take l.place l.row.items) l.fn.map
