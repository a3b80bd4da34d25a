-- Which text spells which request or fault (protocol.txt of beanstalkd, "Protocol" and the commands). A command more is a
-- line more in `Commands`, and a line more in `line_of` of `Arguments`.
use Rattle.std.specs.Prelude.{◌≡◌, ℕ, ◌+◌, nat_lt, List, [], ◌∷◌, ◌++◌, length, take, drop, Option, Some, None, IsSome, Result, Ok, Err, if◌then◌else◌}
use Rattle.std.specs.Option.{ok_or}
use Rattle.std.specs.Str.{bytes_eq}
use Rattle.bean_words.specs.declared.op.Op.TheVariants.{Put}
use Rattle.bean_codec.specs.declared.profile.Profile.{Profile}
use Rattle.bean_codec.specs.declared.request.Request.{Request}
use Rattle.bean_codec.specs.declared.request.Request.TheVariants.{Do}
use Rattle.bean_codec.specs.declared.request.Fault.{Fault}
use Rattle.bean_codec.specs.declared.request.Fault.TheVariants.{BadFormat, UnknownCommand, ExpectedCrlf, JobTooBig}
use Rattle.bean_codec.specs.declared.command.CommandName.{CommandName}
use Rattle.bean_codec.specs.declared.line.Meaning.{Meaning}
use Rattle.bean_codec.specs.declared.line.Meaning.TheVariants.{Whole, WithBody}
use Rattle.bean_codec.specs.Lines.{crlf, IsLine}
use Rattle.bean_codec.specs.Words.{words, begins_with_no_word}
use Rattle.bean_codec.specs.Commands.{command_of, stats_command}
use Rattle.bean_codec.specs.Arguments.{line_of}

-- what a text spells: a request, or the fault that is answered to it
abbrev pub Item : Type 0
Item = Result Request Fault

-- the most bytes of a line with its CR LF
abbrev pub longest_line : ℕ
longest_line = 224

-- the most bytes of a body
abbrev pub longest_body : ℕ
longest_body = 65535

-- the words after the first, where it names this command, or none
abbrev line_with : Option CommandName → List (List ℕ) → Result Meaning Fault
line_with (Some command) words = ok_or (line_of command words) BadFormat
line_with None words = Err UnknownCommand

-- the first word names the command, and those after it have its form, or the format is bad
unfoldable pub command_line : Profile → List (List ℕ) → Result Meaning Fault
command_line profile [] = Err UnknownCommand
command_line profile (first ∷ words) = line_with (command_of profile first) words

-- what a line says by itself, in this profile
unfoldable pub meaning : Profile → List ℕ → Result Meaning Fault
meaning profile line =
    if nat_lt longest_line (length (line ++ crlf)) then Err BadFormat
    else if begins_with_no_word line then Err UnknownCommand
    else command_line profile (words line)

-- the first word of the line is one of the extended profile alone
abbrev pub IsStatsLine : List ℕ → Type 0
IsStatsLine line = (first : List ℕ) × (rest : List (List ℕ)) × (words line ≡ first ∷ rest) × IsSome (stats_command first)

-- what a put line makes with the rest: a body of its size, and two bytes more
unfoldable pub put_item : ℕ → ℕ → ℕ → ℕ → List ℕ → Item
put_item pri delay ttr size rest =
    if nat_lt longest_body size then Err JobTooBig
    else if bytes_eq (drop size rest) crlf then Ok (Do (Put pri delay ttr (take size rest)))
    else Err ExpectedCrlf

-- the rest is what follows a line that says this, and both together make the item
abbrev pub Completes : Result Meaning Fault → List ℕ → Item → Type 0
Completes (Ok (Whole request)) rest item = (rest ≡ []) × (item ≡ Ok request)
Completes (Ok (WithBody pri delay ttr size)) rest item = (length rest ≡ size + 2) × (item ≡ put_item pri delay ttr size rest)
Completes (Err fault) rest item = (rest ≡ []) × (item ≡ Err fault)

-- in this profile the text is a line, its CR LF and a rest, which completes the item
pub record Spells (profile : Profile) (text : List ℕ) (item : Item) : Type 0 where
  pub line : List ℕ
  pub rest : List ℕ
  pub is_line : IsLine line
  pub cut : text ≡ line ++ (crlf ++ rest)
  pub completes : Completes (meaning profile line) rest item
