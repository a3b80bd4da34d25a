-- Lines, and what ends them.
use Rattle.std.specs.Prelude.{◌≢◌, ℕ, List, [], ◌∷◌, ◌++◌, codes}

-- the end of a line: a carriage return and a line feed
abbrev pub crlf : List ℕ
crlf = codes "\r\n"

-- bytes in which no CR LF stands
abbrev pub IsLine : List ℕ → Type 0
IsLine [] = Unit {0}
IsLine (b ∷ []) = Unit {0}
IsLine (b ∷ c ∷ rest) = (b ∷ c ∷ [] ≢ crlf) × IsLine (c ∷ rest)

-- a text, with the end of its line
abbrev pub line_text : List ℕ → List ℕ
line_text text = text ++ crlf
