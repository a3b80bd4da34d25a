use Rattle.std.proofs.Common.{◌-◌, ◌≤◌, length, take}
use Rattle.recovery.specs.Obeyed.{HasReplayed}
use Rattle.beanpax.specs.Program.{WritesMore}
use Rattle.beanpax.proofs.starting.obey.Given as goal

-- the first commands are obeyed
abbrev pub invariant-loop-done : goal.invariant-loop-done
invariant-loop-done g l = (l.done ≤ length l.commands) × HasReplayed g.O.Object.rules l.fn.members l.recovery (take l.done l.commands) ×
    WritesMore g.E.ByteOut l.fn.errors l.errors

abbrev pub decreases-loop-done : goal.decreases-loop-done
decreases-loop-done g l = length l.commands - l.done
