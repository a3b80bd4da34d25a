-- What a writer holds of a log.
use Rattle.std.specs.Prelude.{◌≡◌, ◌≢◌, ◌<◌, ◌+◌, ℕ, List, ◌∷◌, ◌++◌, Option, Some}
use Rattle.std.specs.List.{AllByRecursion}
use Rattle.object.specs.Lists.{IsBeginning}
use Rattle.object.specs.declared.command.Command.{Command}
use Rattle.ballot.specs.Members.{IsMembers}
use Rattle.bean_words.specs.declared.op.Op.{Op}
use Rattle.command_log.specs.declared.chain.Chain.{Chain}
use Rattle.command_log.specs.declared.faults.LogFault.{LogFault}
use Rattle.command_log.specs.declared.faults.LogFault.TheVariants.{Unbegun, BadHead, Damaged}
use Rattle.command_log.specs.declared.version.LogVersion.{LogVersion}
use Rattle.command_log.specs.Lines.{IsChain, IsLogged}
use Rattle.command_log.specs.Text.{first_chain, head_line, lines_from, line_of_command, log_text, log_chain}

-- the bytes of a writer are known, with these behind them they are the text of a log, and its next line is chained so
pub record HoldsLog (contents : Option (List ℕ)) (batch : List ℕ) (chain : Chain) (members : List ℕ) (commands : List (Command Op)) : Type 0 where
  pub version : LogVersion
  pub held : List ℕ
  pub members_ok : IsMembers members
  pub logged : AllByRecursion IsLogged commands
  pub known : contents ≡ Some held
  pub text : held ++ batch ≡ log_text version members commands
  pub chained : chain ≡ log_chain version members commands

-- the bytes of a writer are known, and a beginning of the text of a log
abbrev pub BeginsLog : Option (List ℕ) → List ℕ → List (Command Op) → Type 0
BeginsLog contents members commands = (rest : List ℕ) × ((chain : Chain) × HoldsLog contents rest chain members commands)

-- a log stands at the text's beginning
pub record BeginsWithLog (text : List ℕ) (version : LogVersion) (members : List ℕ) (commands : List (Command Op)) : Type 0 where
  pub members_ok : IsMembers members
  pub logged : AllByRecursion IsLogged commands
  pub begins : IsBeginning (log_text version members commands) text

-- the text of a log, cut anywhere behind its head
pub record IsCutLog (text : List ℕ) (version : LogVersion) (members : List ℕ) (commands : List (Command Op)) : Type 0 where
  pub members_ok : IsMembers members
  pub logged : AllByRecursion IsLogged commands
  pub head : IsBeginning (head_line version members) text
  pub cut : IsBeginning text (log_text version members commands)

-- a log stands at the text's beginning, and behind it a command's line, of whatever version, that is chained to another line
pub record HasStrayLine (text : List ℕ) (version : LogVersion) (members : List ℕ) (commands : List (Command Op)) : Type 0 where
  pub stray_version : LogVersion
  pub chain : Chain
  pub command : Command Op
  pub rest : List ℕ
  pub members_ok : IsMembers members
  pub logged : AllByRecursion IsLogged commands
  pub chained : IsChain stray_version chain
  pub stray_logged : IsLogged command
  pub elsewhere : chain ≢ log_chain version members commands
  pub cut : text ≡ log_text version members commands ++ (line_of_command chain command ++ rest)

-- the lines of a log of a command at least stand behind a head of another version
pub record HasOtherHead (text : List ℕ) : Type 0 where
  pub version : LogVersion
  pub written : LogVersion
  pub members : List ℕ
  pub others : List ℕ
  pub command : Command Op
  pub commands : List (Command Op)
  pub rest : List ℕ
  pub other : version ≢ written
  pub members_ok : IsMembers members
  pub logged : IsLogged command
  pub cut : text ≡ head_line version members ++ (lines_from (first_chain written others) (command ∷ commands) ++ rest)

-- the fault is one of a line behind so many commands
abbrev pub IsBehind : ℕ → LogFault → Type 0
IsBehind count Unbegun = ⊥
IsBehind count BadHead = ⊥
IsBehind count (Damaged n) = count + 1 < n
