use Rattle.std.proofs.Common.{◌++◌, List, take, drop}
use Rattle.object.specs.declared.command.Command.{Command}
use Rattle.recovery.specs.Obeyed.{AreLeftOpen}
use Rattle.recovery.specs.Opened.{EndsAll}
use Rattle.recovery.proofs.open_sessions.end_all.Given as goal

-- those that the commands so far leave open; and what is left of the commands has to end them
abbrev pub invariant-loop-command : goal.invariant-loop-command
invariant-loop-command g l = (before : List (Command g.row.Op.Denot)) → AreLeftOpen l.fn.live before
    → AreLeftOpen l.left (before ++ take l.command-index l.commands)
    × (EndsAll (before ++ take l.command-index l.commands) (drop l.command-index l.commands) → EndsAll before l.commands)
