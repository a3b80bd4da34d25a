-- What is found of a dump or a log, and how it is told.
use Rattle.std.specs.Prelude.{◌≡◌, ◌⊎◌, ◌+◌, ◌==◌, ℕ, Bool, true, false, if◌then◌else◌, List, ◌++◌, codes, length}
use Rattle.std.specs.Fmt.{decimal}
use Rattle.object.specs.Lists.{IsBeginning}
use Rattle.object.specs.declared.command.Command.{Command}
use Rattle.bean_words.specs.declared.op.Op.{Op}
use Rattle.bean_words.specs.declared.reply.Reply.{Reply}
use Rattle.recorder.specs.Chronicles.{Chronicle}
use Rattle.chronicle.specs.Checking.{IsFaultless}
use Rattle.chronicle.specs.CheckFaults.{IsFaultAt}
use Rattle.chronicle_text.specs.Dump.{dump_text}
use Rattle.chronicle_text.specs.Reading.{IsBadLine}
use Rattle.chronicle_text.specs.Values.{IsChronicleValue}
use Rattle.chronicle.specs.declared.check_fault.What.{What}
use Rattle.chronicle.specs.declared.check_fault.What.TheVariants.{NotSubmitted, NotKept, SubmittedTwice, PlacedTooEarly, NotTheQueuesAnswer}
use Rattle.command_log.specs.declared.faults.LogFault.TheVariants as log
use Rattle.command_log.specs.declared.whole.Whole.{Whole}
use Rattle.command_log.specs.Faults.{IsLogFault}
use Rattle.command_log.specs.Reading.{IsWholeLog}
use Rattle.inspection.specs.declared.verdict.Verdict.{Verdict}
use Rattle.inspection.specs.declared.verdict.Verdict.TheVariants.{Legal, BadLine, At, Log, LogDamaged}

-- the verdict on a chronicle; a chronicle itself has no bad line
abbrev pub IsVerdictOn : Chronicle Op Reply → Verdict → Type 0
IsVerdictOn c (Legal submitted answered ordered) =
    IsFaultless c × (submitted ≡ length c.submitted) × (answered ≡ length c.answers) × (ordered ≡ length c.order)
IsVerdictOn c (BadLine n) = ⊥
IsVerdictOn c (At n what) = IsFaultAt c n what
IsVerdictOn c (Log commands behind) = ⊥
IsVerdictOn c (LogDamaged n) = ⊥

-- the verdict on the chronicle whose dump the text is
abbrev pub IsVerdictOnDump : List ℕ → Verdict → Type 0
IsVerdictOnDump text verdict = (c : Chronicle Op Reply) × IsChronicleValue c × (dump_text c ≡ text) × IsVerdictOn c verdict

-- the verdict on a text as a dump: that on the chronicle whose dump it is, or its first line outside the form
abbrev pub IsDumpVerdict : List ℕ → Verdict → Type 0
IsDumpVerdict text (BadLine n) = IsBadLine n text
IsDumpVerdict text (Legal submitted answered ordered) = IsVerdictOnDump text (Legal submitted answered ordered)
IsDumpVerdict text (At n what) = IsVerdictOnDump text (At n what)
IsDumpVerdict text (Log commands behind) = ⊥
IsDumpVerdict text (LogDamaged n) = ⊥

-- a log of so many commands stands at the text's beginning, and so many bytes behind it, where no right line stands
pub record BeginsAsLog (text : List ℕ) (count behind : ℕ) : Type 0 where
  pub whole : Whole
  pub commands : List (Command Op)
  pub log : IsWholeLog text whole commands
  pub counted : count ≡ length commands
  pub left : whole.bytes + behind ≡ length text

-- or it ends within its head, so that all of it is behind a log that has nothing
abbrev pub CountsLog : List ℕ → ℕ → ℕ → Type 0
CountsLog text count behind = BeginsAsLog text count behind ⊎ (IsLogFault text log.Unbegun × (count ≡ 0) × (behind ≡ length text))

-- the first line that doesn't go on with it, where a right one stands there or behind; or line 1, where that is no head
abbrev pub IsDamagedLog : List ℕ → ℕ → Type 0
IsDamagedLog text n = IsLogFault text (log.Damaged n) ⊎ (IsLogFault text log.BadHead × (n ≡ 1))

-- the verdict on a text as a log
abbrev pub IsLogVerdict : List ℕ → Verdict → Type 0
IsLogVerdict text (Log commands behind) = CountsLog text commands behind
IsLogVerdict text (LogDamaged n) = IsDamagedLog text n
IsLogVerdict text (BadLine n) = ⊥
IsLogVerdict text (Legal submitted answered ordered) = ⊥
IsLogVerdict text (At n what) = ⊥

-- so begins what is read as a log
abbrev pub IsReadAsLog : List ℕ → Type 0
IsReadAsLog text = IsBeginning (codes "beanpax-log ") text

-- the verdict on a text: as a log where it begins so, and else as a dump
abbrev pub IsVerdict : List ℕ → Verdict → Type 0
IsVerdict text verdict = (IsReadAsLog text × IsLogVerdict text verdict) ⊎ ((IsReadAsLog text → ⊥) × IsDumpVerdict text verdict)

-- nothing is wrong
abbrev pub is_legal : Verdict → Bool
is_legal (Legal submitted answered ordered) = true
is_legal (BadLine n) = false
is_legal (At n what) = false
is_legal (Log commands behind) = true
is_legal (LogDamaged n) = false

-- what is wrong with a line is called so
abbrev pub fault_name : What → List ℕ
fault_name NotSubmitted = codes "not submitted"
fault_name NotKept = codes "not kept"
fault_name SubmittedTwice = codes "submitted twice"
fault_name PlacedTooEarly = codes "placed too early"
fault_name NotTheQueuesAnswer = codes "not the queue's answer"

-- the line by which it is told that nothing is wrong
unfoldable pub legal_line : ℕ → ℕ → ℕ → List ℕ
legal_line submitted answered ordered =
    codes "legal: " ++ (decimal submitted ++ (codes " submitted, " ++ (decimal answered ++ (codes " answered, " ++ (decimal ordered ++ codes " ordered\n")))))

-- and that this is wrong with a line
unfoldable pub wrong_line : ℕ → List ℕ → List ℕ
wrong_line n name = codes "line " ++ (decimal n ++ (codes ": " ++ (name ++ codes "\n")))

-- the line by which it is told that the text is a log
unfoldable pub whole_log_line : ℕ → List ℕ
whole_log_line commands = codes "log: " ++ (decimal commands ++ codes " commands\n")

-- and that something stands behind it
unfoldable pub torn_log_line : ℕ → ℕ → List ℕ
torn_log_line commands behind = codes "log: " ++ (decimal commands ++ (codes " commands, and " ++ (decimal behind ++ codes " bytes behind them\n")))

-- one of these
abbrev pub log_line : ℕ → ℕ → List ℕ
log_line commands behind = if behind == 0 then whole_log_line commands else torn_log_line commands behind

-- the line by which a verdict is told
abbrev pub verdict_line : Verdict → List ℕ
verdict_line (Legal submitted answered ordered) = legal_line submitted answered ordered
verdict_line (BadLine n) = wrong_line n (codes "bad line")
verdict_line (At n what) = wrong_line n (fault_name what)
verdict_line (Log commands behind) = log_line commands behind
verdict_line (LogDamaged n) = wrong_line n (codes "log damaged")
