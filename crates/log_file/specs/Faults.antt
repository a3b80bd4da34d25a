-- Why a command isn't noted, and why no log is read.
use Rattle.std.specs.Prelude.{◌≡◌, ◌≢◌, ℕ, ◌≤◌, ◌<◌, ◌^◌, Bool, true, false, ⊤, List, length, Option, IfSome}
use Rattle.object.specs.declared.command.Command.{Command}
use Rattle.bean_words.specs.declared.op.Op.{Op}
use Rattle.command_log.specs.declared.faults.WriteFault.{WriteFault}
use Rattle.command_log.specs.declared.faults.WriteFault.TheVariants as write
use Rattle.command_log.specs.declared.line.TheConstants.{MAX_WORDS}
use Rattle.command_log.specs.Faults.{IsLogFault}
use Rattle.command_log.specs.Text.{command_words}
use Rattle.std.specs.Io.KnownBytes.{Appends}
use Rattle.log_file.specs.Bytes.{AppendsPart}
use Rattle.log_file.specs.declared.faults.KeepFault.{KeepFault}
use Rattle.log_file.specs.declared.faults.KeepFault.TheVariants as keep
use Rattle.log_file.specs.declared.faults.NoteFault.{NoteFault}
use Rattle.log_file.specs.declared.faults.NoteFault.TheVariants as note
use Rattle.log_file.specs.declared.faults.OpenFault.{OpenFault}
use Rattle.log_file.specs.declared.faults.OpenFault.TheVariants as open_fault
use Rattle.log_file.specs.declared.faults.ReadFault.{ReadFault}
use Rattle.log_file.specs.declared.faults.ReadFault.TheVariants as read
use Rattle.log_file.specs.Reads.{ReadsAll, ReadsSome}

-- the fault of a line that isn't written
abbrev pub note_fault_of : WriteFault → NoteFault
note_fault_of write.OutOfMemory = note.OutOfMemory
note_fault_of write.TooLong = note.TooLong

-- what a fault says of the log, which has failed or not, and of the command
abbrev pub IsNoteFault : Bool → Command Op → NoteFault → Type 0
IsNoteFault has_failed c note.OutOfMemory = has_failed ≡ false
IsNoteFault has_failed c note.TooLong = (has_failed ≡ false) × (MAX_WORDS < length (command_words c))
IsNoteFault has_failed c note.HasFailed = has_failed ≡ true

-- what a fault says of the bytes that a writer held before and after the batch: a part of the batch was written, or all of it, or
-- none was tried
abbrev pub IsKeepFault : Option (List ℕ) → Option (List ℕ) → List ℕ → KeepFault → Type 0
IsKeepFault before after batch (keep.WriteFailed e) = AppendsPart before after batch
IsKeepFault before after batch (keep.SyncFailed e) = Appends before after batch
IsKeepFault before after batch keep.Changed = Appends before after batch
IsKeepFault before after batch keep.HasFailed = after ≡ before

-- what a fault of a write alone says of these bytes
abbrev pub IsOfWriting : Option (List ℕ) → Option (List ℕ) → List ℕ → KeepFault → Type 0
IsOfWriting before after batch (keep.WriteFailed e) = AppendsPart before after batch
IsOfWriting before after batch (keep.SyncFailed e) = ⊥
IsOfWriting before after batch keep.Changed = ⊥
IsOfWriting before after batch keep.HasFailed = after ≡ before

-- what a fault of a sync says of the bytes that the writer holds, which should be so many
abbrev pub IsOfSyncing : Option (List ℕ) → ℕ → KeepFault → Type 0
IsOfSyncing contents len (keep.WriteFailed e) = ⊥
IsOfSyncing contents len (keep.SyncFailed e) = ⊤
IsOfSyncing contents len keep.Changed = IfSome contents (λ held. length held ≢ len)
IsOfSyncing contents len keep.HasFailed = ⊤

-- a read failed
abbrev pub IsOfReading : ReadFault → Type 0
IsOfReading read.OutOfMemory = ⊥
IsOfReading (read.ReadFailed e) = ⊤
IsOfReading read.TooLong = ⊥
IsOfReading (read.NoLog fault) = ⊥

-- what a fault says of a text of which all was read
abbrev pub IsFaultOf : List ℕ → ReadFault → Type 0
IsFaultOf text read.OutOfMemory = ⊥
IsFaultOf text (read.ReadFailed e) = ⊥
IsFaultOf text read.TooLong = ⊥
IsFaultOf text (read.NoLog fault) = IsLogFault text fault

-- what a fault says of the bytes that were left before and after
abbrev pub IsReadFault : Option (List ℕ) → Option (List ℕ) → ReadFault → Type 0
IsReadFault before after read.OutOfMemory = ⊤
IsReadFault before after (read.ReadFailed e) = ⊤
IsReadFault before after read.TooLong = ReadsSome before after (λ text. 2 ^ 64 ≤ length text)
IsReadFault before after (read.NoLog fault) = ReadsAll before after (λ text. IsLogFault text fault)

-- what a fault says of a file that grants its lock or doesn't
abbrev pub IsOfLocking : Option Bool → OpenFault → Type 0
IsOfLocking grants open_fault.OutOfMemory = ⊥
IsOfLocking grants open_fault.Locked = IfSome grants (λ granted. granted ≡ false)
IsOfLocking grants open_fault.NotAFile = ⊥
IsOfLocking grants (open_fault.FileFailed e) = ⊤
IsOfLocking grants (open_fault.Unread fault) = ⊥
IsOfLocking grants (open_fault.Unkept fault) = ⊥

-- a log in a locked file isn't opened, and where that is for what was read of it, this is so of that
abbrev pub IsUnreadBy : (ReadFault → Type 0) → OpenFault → Type 0
IsUnreadBy P open_fault.OutOfMemory = ⊤
IsUnreadBy P open_fault.Locked = ⊥
IsUnreadBy P open_fault.NotAFile = ⊥
IsUnreadBy P (open_fault.FileFailed e) = ⊤
IsUnreadBy P (open_fault.Unread fault) = P fault
IsUnreadBy P (open_fault.Unkept fault) = ⊤
