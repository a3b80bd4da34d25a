use Rattle.std.proofs.Common.{◌++◌, List, take}
use Rattle.object.specs.declared.command.Command.{Command}
use Rattle.recovery.specs.Obeyed.{AreLeftOpen}
use Rattle.recovery.proofs.open_sessions.note_all.Given as goal

-- those that the commands so far leave open
abbrev pub invariant-loop-command : goal.invariant-loop-command
invariant-loop-command g l = (before : List (Command g.row.Op.Denot)) → AreLeftOpen l.fn.live before →
    AreLeftOpen l.live (before ++ take l.command-index l.commands)
