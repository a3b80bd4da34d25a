-- A log, and what waits to be written to it.
use Rattle.std.specs.Prelude.{◌≡◌, ◌≤◌, ℕ, List, ◌++◌, length, Option}
use Rattle.object.specs.declared.command.Command.{Command}
use Rattle.bean_words.specs.declared.op.Op.{Op}
use Rattle.log_file.specs.Logs.{HoldsLog}
use Rattle.log_file.specs.States.{LogState}
use Rattle.log_file.specs.declared.faults.KeepFault.TheVariants as keep
use Rattle.log_file.specs.declared.faults.NoteFault.{NoteFault}
use Rattle.log_file.specs.declared.faults.NoteFault.TheVariants as note
use Rattle.journal.specs.declared.fault.JournalFault.{JournalFault}
use Rattle.journal.specs.declared.fault.JournalFault.TheVariants.{OutOfMemory, TooLong, Unkept}

-- the log; the commands that come next in it, and how many there are of all with these; and how many of all are written, and synced
pub record JournalState (W : Type 0) : Type 0 where
  pub log : LogState W
  pub waiting : List (Command Op)
  pub due : ℕ
  pub written : ℕ
  pub synced : ℕ

-- the log, with what waits behind it, is one of these commands, and they are no fewer than are counted; the bytes of its writer are known
pub record HoldsAll {W : Type 0} (contents : W → Option (List ℕ)) (j : JournalState W) (members : List ℕ) (commands : List (Command Op)) : Type 0 where
  pub noted : List (Command Op)
  pub log : HoldsLog (contents j.log.writer) j.log.batch j.log.chain members noted
  pub rest : noted ++ j.waiting ≡ commands
  pub counted : j.due ≤ length commands

-- nothing is lost: what the log was, with what waited behind it, it still is with what waits behind it now
abbrev pub LosesNothing : {W : Type 0} → (W → Option (List ℕ)) → JournalState W → JournalState W → Type 0
LosesNothing contents old new =
    (members : List ℕ) (commands : List (Command Op)) → HoldsAll contents old members commands → HoldsAll contents new members commands

-- the fault of a command that isn't noted
abbrev pub fault_of_note : NoteFault → JournalFault
fault_of_note note.OutOfMemory = OutOfMemory
fault_of_note note.TooLong = TooLong
fault_of_note note.HasFailed = Unkept keep.HasFailed
