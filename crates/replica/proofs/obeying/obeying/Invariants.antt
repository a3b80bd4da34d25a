use Rattle.std.proofs.Common.{◌≡◌, ◌≤◌, ◌-◌}
use Rattle.object.specs.Obeying.{obeyed}
use Rattle.slot_log.specs.Histories.{commands_upto}
use Rattle.replica.proofs.obeying.obeying.Given as goal

-- the object has obeyed the commands before the number
abbrev pub invariant-loop-number : goal.invariant-loop-number
invariant-loop-number g l = (l.object ≡ obeyed g.O.Object.rules (commands_upto (l.number - 1) l.slots.decisions)) × (1 ≤ l.number)
