use Rattle.std.proofs.Common.{◌≡◌, drop}
use Rattle.ballot.proofs.slot_row.cut.Given as goal

-- so many are gone from the front
abbrev pub invariant-loop : goal.invariant-loop
invariant-loop g l = l.row.items ≡ drop l.counter l.initial.row.items
