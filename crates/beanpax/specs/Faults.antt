-- What is told of a fault.
use Rattle.std.specs.Prelude.{◌≡◌, ◌≢◌, ◌⊎◌, ℕ, List, ◌++◌, codes}
use Rattle.std.specs.Fmt.{decimal}
use Rattle.std_io.specs.IoError.{error_kind}
use Rattle.std_io.specs.declared.io.kind.ErrorKind.{ErrorKind}
use Rattle.std_io.specs.declared.io.kind.ErrorKind.TheVariants as io
use Rattle.command_log.specs.declared.faults.LogFault.{LogFault}
use Rattle.command_log.specs.declared.faults.LogFault.TheVariants as log
use Rattle.log_file.specs.declared.faults.KeepFault.{KeepFault}
use Rattle.log_file.specs.declared.faults.KeepFault.TheVariants as keeping
use Rattle.log_file.specs.declared.faults.OpenFault.{OpenFault}
use Rattle.log_file.specs.declared.faults.OpenFault.TheVariants as opening
use Rattle.log_file.specs.declared.faults.ReadFault.{ReadFault}
use Rattle.log_file.specs.declared.faults.ReadFault.TheVariants as reading
use Rattle.journal.specs.declared.fault.JournalFault.{JournalFault}
use Rattle.journal.specs.declared.fault.JournalFault.TheVariants as journal
use Rattle.session.specs.declared.faults.SessionFault.{SessionFault}
use Rattle.session.specs.declared.faults.SessionFault.TheVariants as of
use Rattle.event_loops.specs.declared.fault.ServeFault.{ServeFault}
use Rattle.event_loops.specs.declared.fault.ServeFault.TheVariants as server
use Rattle.beanpax.specs.declared.faults.ProgramFault.{ProgramFault}
use Rattle.beanpax.specs.declared.faults.ProgramFault.TheVariants.{OutOfMemory, BadNumber, ReadFailed, WriteFailed}
use Rattle.beanpax.specs.declared.faults.ProgramFault.TheVariants.{ServiceStopped, ListenFailed, FileFailed}
use Rattle.beanpax.specs.declared.faults.ProgramFault.TheVariants.{ThreadFailed, LogDamaged}

-- the fault of a session, as one of the program
abbrev pub of_session : SessionFault → ProgramFault
of_session of.OutOfMemory = OutOfMemory
of_session of.ReadFailed = ReadFailed
of_session of.WriteFailed = WriteFailed
of_session of.ServiceStopped = ServiceStopped

-- and that of a server
abbrev pub of_server : ServeFault → ProgramFault
of_server server.OutOfMemory = OutOfMemory
of_server server.BadNumber = BadNumber
of_server (server.ListenFailed e) = ListenFailed
of_server server.ThreadFailed = ThreadFailed
of_server (server.LogFailed why) = ListenFailed

-- a file could not be read or written: for want of memory, or not
pub record IsOfFile (kind : ErrorKind) (fault : ProgramFault) : Type 0 where
  pub memory : kind ≡ io.OutOfMemory → fault ≡ OutOfMemory
  pub other : kind ≢ io.OutOfMemory → fault ≡ FileFailed

-- a text that is no log is damaged; where it has no head, in its first line
abbrev pub of_log : LogFault → ProgramFault
of_log log.Unbegun = LogDamaged 1
of_log log.BadHead = LogDamaged 1
of_log (log.Damaged line) = LogDamaged line

-- why a log isn't read
abbrev pub IsOfUnread : ReadFault → ProgramFault → Type 0
IsOfUnread reading.OutOfMemory fault = fault ≡ OutOfMemory
IsOfUnread (reading.ReadFailed e) fault = IsOfFile (error_kind e) fault
IsOfUnread reading.TooLong fault = fault ≡ FileFailed
IsOfUnread (reading.NoLog found) fault = fault ≡ of_log found

-- why what was written isn't kept
abbrev pub of_keeping : KeepFault → ProgramFault
of_keeping (keeping.WriteFailed e) = WriteFailed
of_keeping (keeping.SyncFailed e) = FileFailed
of_keeping keeping.Changed = FileFailed
of_keeping keeping.HasFailed = FileFailed

-- why a log's commands aren't kept
abbrev pub of_journal : JournalFault → ProgramFault
of_journal journal.OutOfMemory = OutOfMemory
of_journal journal.TooLong = FileFailed
of_journal (journal.Unkept why) = of_keeping why

-- the fault of a server that has a log
abbrev pub of_logged : ServeFault → ProgramFault
of_logged (server.LogFailed why) = of_journal why
of_logged fault = of_server fault

-- why a file isn't opened as a log
abbrev pub IsOfOpening : OpenFault → ProgramFault → Type 0
IsOfOpening opening.OutOfMemory fault = fault ≡ OutOfMemory
IsOfOpening opening.Locked fault = fault ≡ FileFailed
IsOfOpening opening.NotAFile fault = fault ≡ FileFailed
IsOfOpening (opening.FileFailed e) fault = IsOfFile (error_kind e) fault
IsOfOpening (opening.Unread unread) fault = IsOfUnread unread fault
IsOfOpening (opening.Unkept unkept) fault = fault ≡ of_keeping unkept

-- what can go wrong while a line is written to the output
abbrev pub IsOfOutput : ProgramFault → Type 0
IsOfOutput fault = (fault ≡ OutOfMemory) ⊎ (fault ≡ WriteFailed)

-- and while a dump is written to its file
abbrev pub IsOfDump : ProgramFault → Type 0
IsOfDump fault = (fault ≡ OutOfMemory) ⊎ (fault ≡ FileFailed)

-- and with a server
abbrev pub IsOfServer : ProgramFault → Type 0
IsOfServer fault = (fault ≡ OutOfMemory) ⊎ ((served : ServeFault) × (fault ≡ of_server served))

-- and with its log
abbrev pub IsOfLog : ProgramFault → Type 0
IsOfLog fault = (fault ≡ OutOfMemory) ⊎ (fault ≡ WriteFailed) ⊎ (fault ≡ FileFailed) ⊎ ((line : ℕ) × (fault ≡ LogDamaged line))

-- the number by which a fault is told
abbrev pub number_of_fault : ProgramFault → ℕ
number_of_fault OutOfMemory = 1
number_of_fault BadNumber = 6
number_of_fault ReadFailed = 7
number_of_fault WriteFailed = 8
number_of_fault ServiceStopped = 9
number_of_fault ListenFailed = 12
number_of_fault FileFailed = 13
number_of_fault ThreadFailed = 14
number_of_fault (LogDamaged line) = 15

-- what a fault is called
abbrev pub text_of : ProgramFault → List ℕ
text_of OutOfMemory = codes "out of memory"
text_of BadNumber = codes "bad number"
text_of ReadFailed = codes "read failed"
text_of WriteFailed = codes "write failed"
text_of ServiceStopped = codes "service stopped"
text_of ListenFailed = codes "cannot listen"
text_of FileFailed = codes "file failed"
text_of ThreadFailed = codes "cannot start a thread"
text_of (LogDamaged line) = codes "log damaged: line " ++ decimal line

-- the line by which a fault is told
unfoldable pub fault_line_text : ProgramFault → List ℕ
fault_line_text fault = codes "beanpax: " ++ decimal (number_of_fault fault) ++ codes " " ++ text_of fault ++ codes "\n"

-- the line by which it is told what failed, and why
unfoldable pub cause_line : List ℕ → List ℕ → List ℕ
cause_line name reason = codes "beanpax: " ++ (name ++ (codes ": " ++ (reason ++ codes "\n")))
