use Rattle.std.proofs.Common.{◌≡◌, ◌+◌, ◌≤◌, ℕ, length, max}
use Rattle.ballot.specs.SlotRows.{in_row}
use Rattle.ballot.proofs.slot_row.put.Given as goal

-- nothing but places without a value came to the row
abbrev pub invariant-loop : goal.invariant-loop
invariant-loop g l =
    ((first s : ℕ) → in_row first l.row.items s ≡ in_row first l.fn.row.items s)
    × (length l.row.items ≡ l.counter)
    × (length l.row.items ≤ max (length l.fn.row.items) (l.place + 1))
