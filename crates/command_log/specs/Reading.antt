-- What any bytes are, read as a log.
use Rattle.std.specs.Prelude.{◌≡◌, ◌≢◌, ℕ, suc, ◌⊎◌, List, [], ◌++◌, length, take, drop, codes}
use Rattle.std.specs.List.{AllByRecursion}
use Rattle.object.specs.declared.command.Command.{Command}
use Rattle.ballot.specs.Members.{IsMembers}
use Rattle.bean_words.specs.declared.op.Op.{Op}
use Rattle.command_log.specs.declared.version.LogVersion.{LogVersion}
use Rattle.command_log.specs.declared.whole.Whole.{Whole}
use Rattle.command_log.specs.Lines.{IsLogged, IsLogLine, IsMisplacedLogLine, IsRightLogLine}
use Rattle.command_log.specs.Text.{head_line, log_text, log_chain}

-- a line begins behind it
abbrev pub IsLineStart : List ℕ → Type 0
IsLineStart before = (before ≡ []) ⊎ ((front : List ℕ) × (before ≡ front ++ codes "\n"))

-- a right line stands in the text
pub record HasRightLine (text : List ℕ) : Type 0 where
  pub before : List ℕ
  pub line : List ℕ
  pub rest : List ℕ
  pub is_line : IsLogLine line
  pub right : IsRightLogLine line
  pub starts : IsLineStart before
  pub cut : text ≡ before ++ (line ++ rest)

-- a log of these commands, by its head and its size, and how its next line is chained
pub record IsLog (whole : Whole) (commands : List (Command Op)) : Type 0 where
  pub members : IsMembers whole.members
  pub logged : AllByRecursion IsLogged commands
  pub chain : whole.chain ≡ log_chain whole.version whole.members commands
  pub lines : whole.lines ≡ suc (length commands)
  pub bytes : whole.bytes ≡ length (log_text whole.version whole.members commands)

-- the text begins with that log, and no right line stands behind it, of whatever version
pub record IsWholeLog (text : List ℕ) (whole : Whole) (commands : List (Command Op)) : Type 0 where
  pub log : IsLog whole commands
  pub begins : take whole.bytes text ≡ log_text whole.version whole.members commands
  pub ends : HasRightLine (drop whole.bytes text) → ⊥

-- the lines before line n, counted from 1, are a log, line n doesn't go on with it, and there or behind stands a right line
pub record IsDamagedAt (n : ℕ) (text : List ℕ) : Type 0 where
  pub version : LogVersion
  pub weights : List ℕ
  pub commands : List (Command Op)
  pub wrong : List ℕ
  pub rest : List ℕ
  pub members : IsMembers weights
  pub logged : AllByRecursion IsLogged commands
  pub number : n ≡ suc (suc (length commands))
  pub is_wrong : IsMisplacedLogLine (log_chain version weights commands) wrong
  pub later : HasRightLine (wrong ++ rest)
  pub cut : text ≡ log_text version weights commands ++ (wrong ++ rest)

-- the text is a beginning of a head, and not all of it
pub record EndsInHead (text : List ℕ) : Type 0 where
  pub version : LogVersion
  pub weights : List ℕ
  pub rest : List ℕ
  pub members : IsMembers weights
  pub some : rest ≢ []
  pub cut : head_line version weights ≡ text ++ rest

-- no head stands at the text's beginning, nor the beginning of one
pub record HasBadHead (text : List ℕ) : Type 0 where
  pub no_head : (version : LogVersion) (weights rest : List ℕ) → IsMembers weights → text ≡ head_line version weights ++ rest → ⊥
  pub not_begun : EndsInHead text → ⊥
