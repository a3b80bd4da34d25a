-- Which text a reader has dropped that waits for this.
use Rattle.std.specs.Prelude.{◌≡◌, ℕ, ◌+◌, ◌≤◌, ◌<◌, List, [], ◌++◌, length, take, codes, Ok}
use Rattle.bean_codec.specs.declared.profile.Profile.{Profile}
use Rattle.bean_codec.specs.declared.line.Meaning.TheVariants.{WithBody}
use Rattle.bean_codec.specs.declared.reader.Want.{Want}
use Rattle.bean_codec.specs.declared.reader.Want.TheVariants.{Line, Rest, Big}
use Rattle.bean_codec.specs.Lines.{crlf, line_text, IsLine}
use Rattle.bean_codec.specs.Grammar.{longest_line, longest_body, meaning}

-- a carriage return stands last
abbrev pub EndsWithCr : List ℕ → Type 0
EndsWithCr text = (front : List ℕ) × (text ≡ front ++ codes "\r")

-- the beginning of a line that is too long. The next byte makes no CR LF of it, and where there is none it ends with no CR
pub record FitsRest (dropped bytes : List ℕ) : Type 0 where
  pub long : longest_line < length (line_text dropped)
  pub is_line : IsLine (dropped ++ take 1 bytes)
  pub last : bytes ≡ [] → EndsWithCr dropped → ⊥

-- a good put line whose body is too large, and all but n of the bytes that follow it
pub record FitsBig (profile : Profile) (n : ℕ) (dropped : List ℕ) : Type 0 where
  pub line : List ℕ
  pub rest : List ℕ
  pub pri : ℕ
  pub delay : ℕ
  pub ttr : ℕ
  pub size : ℕ
  pub is_line : IsLine line
  pub says : meaning profile line ≡ Ok (WithBody pri delay ttr size)
  pub large : longest_body < size
  pub cut : dropped ≡ line ++ (crlf ++ rest)
  pub left : length rest + n ≡ size + 2
  pub some : 1 ≤ n

-- the text that was dropped, with these bytes after it, fits what is wanted
abbrev pub Fits : Profile → Want → List ℕ → List ℕ → Type 0
Fits profile Line dropped bytes = dropped ≡ []
Fits profile Rest dropped bytes = FitsRest dropped bytes
Fits profile (Big n) dropped bytes = FitsBig profile n dropped
