use Rattle.std.proofs.Common.{ℕ, ◌<◌, ◌≤◌}
use Rattle.std.specs.Option.{IsSome}
use Rattle.std.specs.FinMap.{get}
use Rattle.slot_log.proofs.slot_log.SlotLog.open_slot.Given as goal

abbrev pub invariant-loop-number : goal.invariant-loop-number
invariant-loop-number g l = (t : ℕ) → l.self-inside.slot_in ≤ t → t < l.number → IsSome (get l.self-inside.decisions t)
