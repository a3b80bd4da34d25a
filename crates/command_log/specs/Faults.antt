-- Why a command isn't written, and why a text isn't read.
use Rattle.std.specs.Prelude.{ℕ, ◌<◌, ⊤, List, length}
use Rattle.object.specs.declared.command.Command.{Command}
use Rattle.bean_words.specs.declared.op.Op.{Op}
use Rattle.command_log.specs.declared.faults.LogFault.{LogFault}
use Rattle.command_log.specs.declared.faults.LogFault.TheVariants.{Unbegun, BadHead, Damaged}
use Rattle.command_log.specs.declared.faults.WriteFault.{WriteFault}
use Rattle.command_log.specs.declared.faults.WriteFault.TheVariants.{OutOfMemory, TooLong}
use Rattle.command_log.specs.declared.line.TheConstants.{MAX_WORDS}
use Rattle.command_log.specs.Reading.{EndsInHead, HasBadHead, IsDamagedAt}
use Rattle.command_log.specs.Text.{command_words}

-- what a fault says of the command
abbrev pub IsWriteFault : Command Op → WriteFault → Type 0
IsWriteFault c OutOfMemory = ⊤
IsWriteFault c TooLong = MAX_WORDS < length (command_words c)

-- what a fault says of the text
abbrev pub IsLogFault : List ℕ → LogFault → Type 0
IsLogFault text Unbegun = EndsInHead text
IsLogFault text BadHead = HasBadHead text
IsLogFault text (Damaged n) = IsDamagedAt n text
