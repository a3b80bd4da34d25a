-- What is opened where a log was read.
use Rattle.std.specs.Prelude.{◌≡◌, ◌≤◌, ◌^◌, ℕ, ⊤, List, [], length, Option, Result, Ok, Err}
use Rattle.std.specs.Io.KnownBytes.{Keeps}
use Rattle.object.specs.declared.command.Command.{Command}
use Rattle.bean_words.specs.declared.op.Op.{Op}
use Rattle.command_log.specs.declared.faults.LogFault.TheVariants.{Unbegun}
use Rattle.command_log.specs.Faults.{IsLogFault}
use Rattle.log_file.specs.declared.faults.ReadFault.{ReadFault}
use Rattle.log_file.specs.declared.faults.ReadFault.TheVariants.{NoLog, TooLong}
use Rattle.log_file.specs.declared.file.OpenedLog.{OpenedLog}
use Rattle.log_file.specs.declared.reader.Recovered.{Recovered}
use Rattle.log_file.specs.Logs.{HoldsLog}
use Rattle.log_file.specs.Reads.{IsRecovered}

-- that log is opened, with its members and all its commands; where none was begun, one of these members without any; and none
-- of what was read otherwise
abbrev pub Opens : Result Recovered ReadFault → List ℕ → List ℕ → List (Command Op) → ℕ → Type 0
Opens (Ok r) new members commands cut = (members ≡ r.whole.members) × (commands ≡ r.commands.items) × (cut ≡ r.behind)
Opens (Err (NoLog Unbegun)) new members commands cut = (members ≡ new) × (commands ≡ [])
Opens (Err _) new members commands cut = ⊥

-- what was read of this text is the log at its beginning, or why there is none
abbrev pub IsReadOf : List ℕ → Result Recovered ReadFault → Type 0
IsReadOf text (Ok r) = IsRecovered text r
IsReadOf text (Err (NoLog fault)) = IsLogFault text fault
IsReadOf text (Err TooLong) = 2 ^ 64 ≤ length text
IsReadOf text (Err _) = ⊤

-- so many bytes of the text were cut off: what stands behind the log, or all where none was begun
abbrev pub CutsOff : List ℕ → Result Recovered ReadFault → ℕ → Type 0
CutsOff text (Ok r) cut = cut ≡ r.behind
CutsOff text (Err _) cut = cut ≡ length text

-- what is read of this text was opened
pub record IsOpenedOf (text new members : List ℕ) (commands : List (Command Op)) (cut : ℕ) : Type 0 where
  pub read : Result Recovered ReadFault
  pub of : IsReadOf text read
  pub opens : Opens read new members commands cut
  pub cuts : CutsOff text read cut

-- the file of an open log holds that log, with its members and its commands
abbrev pub HoldsOpened : {W : Type 0} → (W → Option (List ℕ)) → OpenedLog W → Type 0
HoldsOpened contents opened = HoldsLog (contents opened.log.writer) [] opened.log.chain opened.members opened.commands.items

-- all that the file of an open log holds is kept
abbrev pub KeepsOpened : {W : Type 0} → (W → Option (List ℕ)) → (W → Option (List ℕ)) → OpenedLog W → Type 0
KeepsOpened contents kept opened = Keeps (contents opened.log.writer) (kept opened.log.writer)
