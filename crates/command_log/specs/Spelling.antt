-- What a line of a dump tells, as a line of a log.
use Rattle.std.specs.Prelude.{ℕ, List, Option, Some, None}
use Rattle.object.specs.declared.command.Command.{Command}
use Rattle.bean_words.specs.declared.op.Op.{Op}
use Rattle.chronicle_text.specs.declared.entry.Entry.{Entry}
use Rattle.chronicle_text.specs.declared.entry.Entry.TheVariants.{Weights, Submitted}

-- the command that was submitted
abbrev pub told_command : Option Entry → Option (Command Op)
told_command (Some (Submitted c)) = Some c
told_command _ = None

-- the weights of members
abbrev pub told_head : Option Entry → Option (List ℕ)
told_head (Some (Weights weights)) = Some weights
told_head _ = None
