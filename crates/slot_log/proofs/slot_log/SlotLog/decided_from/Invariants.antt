use Rattle.std.proofs.Common.{◌≡◌, ◌≤◌}
use Rattle.std.specs.List.{filter}
use Rattle.std.specs.FinMap.{entries}
use Rattle.slot_log.proofs.Windows.{inside}
use Rattle.slot_log.proofs.slot_log.SlotLog.decided_from.Given as goal

-- the decisions before the number are known
abbrev pub invariant-loop-number : goal.invariant-loop-number
invariant-loop-number g l = (l.known.items ≡ filter (inside l.fn.slot l.number) (entries l.self-inside.decisions)) × (l.fn.slot ≤ l.number)
