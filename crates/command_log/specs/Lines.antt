-- Which lines are right.
use Rattle.std.specs.Prelude.{◌≡◌, ℕ, ◌≤◌, ◌==◌, ◌&&◌, not, Bool, true, ⊤, List, ◌++◌, length, codes, Option, Some, None}
use Rattle.std.specs.List.{list_all}
use Rattle.object.specs.declared.command.Act.{Act}
use Rattle.object.specs.declared.command.Act.TheVariants.{Do}
use Rattle.object.specs.declared.command.Command.{Command}
use Rattle.ballot.specs.Members.{IsMembers}
use Rattle.bean_words.specs.declared.op.Op.{Op}
use Rattle.bean_words.specs.declared.op.Op.TheVariants.{Put}
use Rattle.chronicle_text.specs.Lines.{NoFeed}
use Rattle.chronicle_text.specs.Values.{IsCommandValue}
use Rattle.command_log.specs.declared.chain.Chain.{Chain}
use Rattle.command_log.specs.declared.chain.Chain.TheVariants.{Unchained, After}
use Rattle.command_log.specs.declared.head.LogHead.{LogHead}
use Rattle.command_log.specs.declared.line.LogLine.{LogLine}
use Rattle.command_log.specs.declared.line.TheConstants.{MAX_LINE, MAX_WORDS}
use Rattle.command_log.specs.declared.version.LogVersion.{LogVersion}
use Rattle.command_log.specs.declared.version.LogVersion.TheVariants.{One, Two}
use Rattle.command_log.specs.Text.{head_line, command_words, sum_word, summed, chain_words, line_of_command, chain_behind}

-- a log can keep the command: its words aren't too many
pub record IsLogged (c : Command Op) : Type 0 where
  pub value : IsCommandValue c
  pub short : length (command_words c) ≤ MAX_WORDS

-- a body in it isn't longer than a client's may be
abbrev pub HasClientBody : Act Op → Type 0
HasClientBody (Do (Put pri delay ttr body)) = length body ≤ 65535
HasClientBody _ = ⊤

-- a line has its line feed at its end alone
pub record IsLogLine (line : List ℕ) : Type 0 where
  pub said : List ℕ
  pub no_feed : NoFeed said
  pub is : line ≡ said ++ codes "\n"

-- neither a space nor a line feed stands in it
abbrev pub is_plain_word : List ℕ → Bool
is_plain_word bytes = list_all (λ (b : ℕ). not (b == 32) && not (b == 10)) bytes

-- a word of eight bytes
pub record IsSum (sum : List ℕ) : Type 0 where
  pub long : length sum ≡ 8
  pub word : is_plain_word sum ≡ true

-- lines of this version can be chained so: in version 2 by a sum
abbrev pub IsChain : LogVersion → Chain → Type 0
IsChain One Unchained = ⊤
IsChain One (After sum) = ⊥
IsChain Two Unchained = ⊥
IsChain Two (After sum) = IsSum sum

-- the sum with which a line ends, or no words with their sum are the line
abbrev pub EndsInSum : List ℕ → Option (List ℕ) → Type 0
EndsInSum line (Some sum) = (words : List ℕ) × (summed words ≡ line) × (sum ≡ sum_word words)
EndsInSum line None = (words : List ℕ) → summed words ≡ line → ⊥

-- what the last words of a line say of the line before it, or they say nothing that this version could
abbrev pub EndsInChain : LogVersion → List ℕ → Option Chain → Type 0
EndsInChain version words (Some chain) = IsChain version chain × ((front : List ℕ) × (front ++ chain_words chain ≡ words))
EndsInChain version words None = (front : List ℕ) (chain : Chain) → IsChain version chain → front ++ chain_words chain ≡ words → ⊥

-- what words tell: a command, or that of none
abbrev pub TellsCommand : List ℕ → Option (Command Op) → Type 0
TellsCommand words (Some c) = (command_words c ≡ words) × IsCommandValue c
TellsCommand words None = (c : Command Op) → IsCommandValue c → command_words c ≡ words → ⊥

-- the line is that of a command that a log can keep, and the next is chained so
pub record IsRead (version : LogVersion) (line : List ℕ) (read : LogLine) : Type 0 where
  pub is : line_of_command read.chain read.command ≡ line
  pub logged : IsLogged read.command
  pub chained : IsChain version read.chain
  pub next : read.next ≡ chain_behind read.chain read.command

-- what a line keeps, whatever stands before it: a command, or none that a log of this version can keep
abbrev pub HoldsCommand : LogVersion → List ℕ → Option LogLine → Type 0
HoldsCommand version line (Some read) = IsRead version line read
HoldsCommand version line None =
    (chain : Chain) (c : Command Op) → IsChain version chain → IsLogged c → line_of_command chain c ≡ line → ⊥

-- what a line tells as a head of one version: the weights of members, or those of none
abbrev pub HeadsIn : LogVersion → List ℕ → Option (List ℕ) → Type 0
HeadsIn version line (Some weights) = (head_line version weights ≡ line) × IsMembers weights
HeadsIn version line None = (weights : List ℕ) → IsMembers weights → head_line version weights ≡ line → ⊥

-- what a line tells as a head
abbrev pub Heads : List ℕ → Option LogHead → Type 0
Heads line (Some head) = HeadsIn head.version line (Some head.members)
Heads line None = (version : LogVersion) → HeadsIn version line None

-- the line is a head
abbrev pub IsHead : List ℕ → Type 0
IsHead line = (head : LogHead) × Heads line (Some head)

-- a right line, of any version: it ends in its own sum, whatever its words tell, and isn't longer than a log's lines may be
pub record IsRightLogLine (line : List ℕ) : Type 0 where
  pub words : List ℕ
  pub is : summed words ≡ line
  pub short : length line ≤ MAX_LINE

-- a line that isn't right in any version
pub record IsWrongLogLine (line : List ℕ) : Type 0 where
  pub is_line : IsLogLine line
  pub not_right : IsRightLogLine line → ⊥

-- a line that keeps no command where it is chained so
pub record IsMisplacedLogLine (chain : Chain) (line : List ℕ) : Type 0 where
  pub is_line : IsLogLine line
  pub keeps_none : (c : Command Op) → IsLogged c → line_of_command chain c ≡ line → ⊥
