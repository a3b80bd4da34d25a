-- What was read of a log.
use Rattle.std.specs.Prelude.{◌≡◌, ℕ, ◌+◌, List, length, Option}
use Rattle.std.specs.Io.KnownBytes.{Consumes, IsAtEnd}
use Rattle.command_log.specs.Reading.{IsWholeLog}
use Rattle.log_file.specs.declared.reader.Recovered.{Recovered}

-- some bytes were read, and this is so of them
abbrev pub ReadsSome : Option (List ℕ) → Option (List ℕ) → (List ℕ → Type 0) → Type 0
ReadsSome before after P = (text : List ℕ) × Consumes before after text × P text

-- all bytes that were left were read, and this is so of them
abbrev pub ReadsAll : Option (List ℕ) → Option (List ℕ) → (List ℕ → Type 0) → Type 0
ReadsAll before after P = ReadsSome before after (λ text. IsAtEnd after × P text)

-- the log at the text's beginning, and how many bytes stand behind it
pub record IsRecovered (text : List ℕ) (recovered : Recovered) : Type 0 where
  pub log : IsWholeLog text recovered.whole recovered.commands.items
  pub behind : recovered.whole.bytes + recovered.behind ≡ length text
