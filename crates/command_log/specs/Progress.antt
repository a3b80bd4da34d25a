-- Where a reader stands in a text.
use Rattle.std.specs.Prelude.{◌≡◌, ◌↔◌, ℕ, suc, ◌<◌, ◌^◌, IsTrue, List, [], ◌∷◌, ◌++◌, length, take, None}
use Rattle.std.specs.List.{AllByRecursion}
use Rattle.object.specs.declared.command.Command.{Command}
use Rattle.bean_words.specs.declared.op.Op.{Op}
use Rattle.chronicle_text.specs.Lines.{NoFeed, text_of_lines}
use Rattle.command_log.specs.declared.line.TheConstants.{MAX_LINE}
use Rattle.command_log.specs.declared.reader.LogReader.{LogReader}
use Rattle.command_log.specs.declared.stage.Stage.{Stage}
use Rattle.command_log.specs.declared.stage.Stage.TheVariants.{Head, BadHead, Right, Wrong, Damaged}
use Rattle.command_log.specs.Lines.{Heads, IsLogLine, IsWrongLogLine}
use Rattle.command_log.specs.Reading.{EndsInHead, IsLog, IsDamagedAt}
use Rattle.command_log.specs.Text.{log_text}

-- the first line isn't a head
pub record BeginsOtherwise (text : List ℕ) : Type 0 where
  pub line : List ℕ
  pub rest : List ℕ
  pub is_line : IsLogLine line
  pub no_head : Heads line None
  pub cut : text ≡ line ++ rest

-- a wrong line stands behind the log, and behind it wrong ones alone
pub record GoesWrong (log text : List ℕ) : Type 0 where
  pub wrong : List ℕ
  pub more : List (List ℕ)
  pub are_wrong : AllByRecursion IsWrongLogLine (wrong ∷ more)
  pub cut : text ≡ log ++ text_of_lines (wrong ∷ more)

-- what is known after whole lines, which gave these commands
abbrev pub StandsAfter : Stage → List ℕ → List (Command Op) → Type 0
StandsAfter Head text commands = (text ≡ []) × (commands ≡ [])
StandsAfter BadHead text commands = BeginsOtherwise text
StandsAfter (Right whole) text commands = IsLog whole commands × (text ≡ log_text whole.version whole.members commands)
StandsAfter (Wrong whole) text commands =
    IsLog whole commands × GoesWrong (log_text whole.version whole.members commands) text
StandsAfter (Damaged n) text commands = IsDamagedAt n text

-- what is kept of a line: enough to see that it is too long
abbrev pub beginning_kept : List ℕ → List ℕ
beginning_kept line = take (suc MAX_LINE) line

-- the reader has read the text, and has given the commands
pub record HasRead (reader : LogReader) (text : List ℕ) (commands : List (Command Op)) : Type 0 where
  pub lines : List ℕ
  pub tail : List ℕ
  pub cut : text ≡ lines ++ tail
  pub no_feed : NoFeed tail
  pub keeps : reader.line.items ≡ beginning_kept tail
  pub begun : reader.stage ≡ Head → (IsTrue reader.begun ↔ EndsInHead tail)
  pub stands : StandsAfter reader.stage lines commands

-- A reader that has read a text has read these bytes behind it, too, and has given the commands that came to the list; before,
-- it had given those that stood there. No text has 2^64 bytes.
abbrev pub ReadsOn : LogReader → List (Command Op) → List ℕ → LogReader → List (Command Op) → Type 0
ReadsOn before old bytes after new =
    (text : List ℕ) (taken : List (Command Op)) → HasRead before text (taken ++ old) → length (text ++ bytes) < 2 ^ 64
    → HasRead after (text ++ bytes) (taken ++ new)

-- the same of a stage and a whole line, of which this is kept
abbrev pub StepsOn : Stage → List (Command Op) → List ℕ → Stage → List (Command Op) → Type 0
StepsOn before old shown after new =
    (lines line : List ℕ) (taken : List (Command Op)) → IsLogLine line → shown ≡ beginning_kept line → length (lines ++ line) < 2 ^ 64
    → StandsAfter before lines (taken ++ old) → StandsAfter after (lines ++ line) (taken ++ new)
