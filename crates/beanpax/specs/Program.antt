-- What the program tells of its end.
use Rattle.std.specs.Prelude.{◌≡◌, ◌≢◌, ◌⊎◌, ◌<◌, ℕ, Bool, true, false, Option, None, List, [], Result, IfErr, OnOk, codes}
use Rattle.std.specs.Bool.{⊤}
use Rattle.std.specs.Io.KnownBytes.{Appends, IsAtEnd}
use Rattle.session.specs.Streams.{AppendsBeginning}
use Rattle.session.specs.declared.streams.ByteOut.{Ghosts as ByteOut}
use Rattle.bean_codec.specs.declared.profile.Profile.{Profile}
use Rattle.beanpax.specs.Runs.{TellsAll}
use Rattle.session.specs.declared.faults.End.{End}
use Rattle.session.specs.declared.faults.End.TheVariants.{Eof}
use Rattle.beanpax.specs.declared.faults.ProgramFault.{ProgramFault}
use Rattle.beanpax.specs.declared.faults.ProgramFault.TheVariants.{OutOfMemory, BadNumber, ReadFailed, WriteFailed}
use Rattle.beanpax.specs.declared.faults.ProgramFault.TheVariants.{ServiceStopped, ListenFailed, FileFailed}
use Rattle.beanpax.specs.declared.faults.ProgramFault.TheVariants.{ThreadFailed, LogDamaged}
use Rattle.options.specs.declared.words.ServerOptions.{ServerOptions}
use Rattle.beanpax.specs.Faults.{cause_line}
use Rattle.beanpax.specs.Servers.{cut_line, listening_line}
use Rattle.inspection.specs.Verdicts.{IsVerdict, is_legal, verdict_line}
use Rattle.options.specs.declared.words.TheConstants.{VERSION}
use Rattle.options.specs.Words.{AskFor, AskForDump, AskForHelp, AskForLog, AskForRun, AskForServer, AskForVersion}
use Rattle.inspection.specs.declared.verdict.Verdict.{Verdict}

-- A failure is told only of a stream that has failed, or of a log, that the service stopped only where the words ask for a
-- run, and what only a server meets only where they ask for one: of a file only where they name one for its dump or its log,
-- or ask for an inspection, and that a log is damaged only where they name one.
abbrev pub IsCaused : List (List ℕ) → ProgramFault → Bool → Bool → Type 0
IsCaused words OutOfMemory input_failed output_failed = ⊤
IsCaused words ReadFailed input_failed output_failed = input_failed ≡ true
IsCaused words WriteFailed input_failed output_failed = (output_failed ≡ true) ⊎ AskForLog words
IsCaused words ServiceStopped input_failed output_failed = AskForRun words
IsCaused words BadNumber input_failed output_failed = AskFor (codes "serve") words
IsCaused words ListenFailed input_failed output_failed = AskFor (codes "serve") words
IsCaused words FileFailed input_failed output_failed = AskForDump words ⊎ AskForLog words ⊎ AskFor (codes "inspect") words
IsCaused words ThreadFailed input_failed output_failed = AskFor (codes "serve") words
IsCaused words (LogDamaged line) input_failed output_failed = AskForLog words

-- a client was answered in this profile to the end of its session
abbrev pub AnswersToSomeEnd : Profile → Option (List ℕ) → Option (List ℕ) → Option (List ℕ) → Option (List ℕ) → Type 0
AnswersToSomeEnd profile left rest held holds = (end : End) × TellsAll profile left rest held holds end

-- the same, and where the client didn't quit, the reader has come to its end
abbrev pub IsWholeRun : Profile → Option (List ℕ) → Option (List ℕ) → Bool → Option (List ℕ) → Option (List ℕ) → Type 0
IsWholeRun profile left rest has_ended held holds =
    (end : End) × TellsAll profile left rest held holds end × (end ≡ Eof → IsAtEnd rest × (has_ended ≡ true))

-- why a run ended before: no memory, a service that stopped, or a stream that failed
abbrev pub IsRunFault : Bool → Bool → ProgramFault → Type 0
IsRunFault input_failed output_failed OutOfMemory = ⊤
IsRunFault input_failed output_failed ServiceStopped = ⊤
IsRunFault input_failed output_failed ReadFailed = input_failed ≡ true
IsRunFault input_failed output_failed WriteFailed = output_failed ≡ true
IsRunFault input_failed output_failed fault = ⊥

-- why a server ended before: of its output only where that has failed, and of files only where it has them
abbrev pub IsServingFault : ServerOptions → Bool → ProgramFault → Type 0
IsServingFault options output_failed OutOfMemory = ⊤
IsServingFault options output_failed BadNumber = ⊤
IsServingFault options output_failed ListenFailed = ⊤
IsServingFault options output_failed ThreadFailed = ⊤
IsServingFault options output_failed ReadFailed = ⊥
IsServingFault options output_failed ServiceStopped = ⊥
IsServingFault options output_failed WriteFailed = (output_failed ≡ true) ⊎ (options.log ≢ None)
IsServingFault options output_failed FileFailed = (options.dump ≢ None) ⊎ (options.log ≢ None)
IsServingFault options output_failed (LogDamaged line) = options.log ≢ None

-- some text was told
abbrev pub TellsSome : Option (List ℕ) → Option (List ℕ) → Type 0
TellsSome held holds = (text : List ℕ) × (text ≢ []) × Appends held holds text

-- a server has told at which port it listens, and nothing else
abbrev pub HasListened : ServerOptions → Option (List ℕ) → Option (List ℕ) → Type 0
HasListened options held holds = Appends held holds (listening_line options.host options.port)

-- the verdict on some text was told
abbrev pub HasInspected : Option (List ℕ) → Option (List ℕ) → Verdict → Type 0
HasInspected held holds verdict = ((text : List ℕ) × IsVerdict text verdict) × Appends held holds (verdict_line verdict)

-- and it was that nothing is wrong, or another
abbrev pub EndsWith : Bool → Option (List ℕ) → Option (List ℕ) → Type 0
EndsWith legal held holds = (verdict : Verdict) × (is_legal verdict ≡ legal) × HasInspected held holds verdict

-- the line by which the verdict on some text is told
abbrev pub IsVerdictLine : List ℕ → Type 0
IsVerdictLine line = (verdict : Verdict) × ((text : List ℕ) × IsVerdict text verdict) × (line ≡ verdict_line verdict)

-- a beginning of such a line was told, or nothing
abbrev pub BeginsVerdict : Option (List ℕ) → Option (List ℕ) → Type 0
BeginsVerdict held holds = (line : List ℕ) × ((line ≡ []) ⊎ IsVerdictLine line) × AppendsBeginning held holds line

-- What these words let the program tell on its output, where they ask for no run: nothing, the help, the version, the line by
-- which a server tells its port, or a verdict.
abbrev pub MayTell : List (List ℕ) → List ℕ → Type 0
MayTell words text =
    (text ≡ []) ⊎ AskForHelp words ⊎
    (AskForVersion words × (text ≡ VERSION.now)) ⊎
    ((options : ServerOptions) × AskForServer words options × (text ≡ listening_line options.host options.port)) ⊎
    (AskFor (codes "inspect") words × IsVerdictLine text)

-- a beginning of what it may tell was told, and nothing else
abbrev pub BeginsToTell : List (List ℕ) → Option (List ℕ) → Option (List ℕ) → Type 0
BeginsToTell words held holds = (text : List ℕ) × MayTell words text × AppendsBeginning held holds text

-- why nothing was found: there is no such file to be read, no memory, or no output
abbrev pub IsInspectionFault : Bool → ProgramFault → Type 0
IsInspectionFault output_failed OutOfMemory = ⊤
IsInspectionFault output_failed FileFailed = ⊤
IsInspectionFault output_failed WriteFailed = output_failed ≡ true
IsInspectionFault output_failed fault = ⊥

-- known bytes grow by the text, or by a beginning of it where the writer has failed
pub record WritesText (old new : Option (List ℕ)) (has_failed : Bool) (text : List ℕ) : Type 0 where
  pub some : AppendsBeginning old new text
  pub whole : has_failed ≡ false → Appends old new text

-- and this of some text
abbrev pub WritesSome : Option (List ℕ) → Option (List ℕ) → Bool → Type 0
WritesSome old new has_failed = (text : List ℕ) × (text ≢ []) × WritesText old new has_failed text

-- it is told how many bytes were cut off behind a log, where there were some, and else nothing
pub record TellsCut {E : Type 0} (writes : ByteOut E) (old new : E) (bytes : ℕ) : Type 0 where
  pub none : bytes ≡ 0 → new ≡ old
  pub some : 0 < bytes → WritesText (writes.contents old) (writes.contents new) (writes.has_failed new) (cut_line bytes)

-- nothing was told, or some text
abbrev pub WritesMore : {E : Type 0} → ByteOut E → E → E → Type 0
WritesMore writes old new = (new ≡ old) ⊎ ((text : List ℕ) × Appends (writes.contents old) (writes.contents new) text)

-- and where no log is asked for, nothing was told
pub record TellsOfLog {E : Type 0} (has_log : Type 0) (writes : ByteOut E) (old new : E) : Type 0 where
  pub more : WritesMore writes old new
  pub silent : (has_log → ⊥) → new ≡ old

-- the name of what failed was told, and a reason, in a line of their own
abbrev pub TellsCause : {E : Type 0} → ByteOut E → E → E → List ℕ → Type 0
TellsCause writes old new name =
    (reason : List ℕ) × WritesText (writes.contents old) (writes.contents new) (writes.has_failed new) (cause_line name reason)

-- so was some name
abbrev pub TellsSomeCause : {E : Type 0} → ByteOut E → E → E → Type 0
TellsSomeCause writes old new = (name : List ℕ) × TellsCause writes old new name

-- of an address or a file that failed the cause was told; of a write that failed, where it was one to a log; and of nothing else
abbrev pub TellsCauseOf : {E : Type 0} → ByteOut E → ProgramFault → E → E → Type 0
TellsCauseOf writes ListenFailed old new = TellsSomeCause writes old new
TellsCauseOf writes FileFailed old new = TellsSomeCause writes old new
TellsCauseOf writes (LogDamaged line) old new = TellsSomeCause writes old new
TellsCauseOf writes WriteFailed old new = (new ≡ old) ⊎ TellsSomeCause writes old new
TellsCauseOf writes fault old new = new ≡ old

-- where all went well nothing was told, and else the cause
pub record TellsCauseIn {E X : Type 0} (writes : ByteOut E) (result : Result X ProgramFault) (old new : E) : Type 0 where
  pub silent : OnOk result (new ≡ old)
  pub cause : IfErr result (λ fault. TellsCauseOf writes fault old new)

-- it was told of a log, where there is one, and behind that the cause, where something failed
abbrev pub TellsOfServing : {E X : Type 0} → Type 0 → ByteOut E → Result X ProgramFault → E → E → Type 0
TellsOfServing {E} has_log writes result old new = (middle : E) × TellsOfLog has_log writes old middle × TellsCauseIn writes result middle new
