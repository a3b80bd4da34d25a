-- The lines of a dump: words, parted by single spaces.
use Rattle.std.specs.Prelude.{◌≢◌, ℕ, List, [], ◌∷◌, ◌++◌, codes}
use Rattle.std.specs.List.{AllByRecursion, flat_map}
use Rattle.hex.specs.Hex.{encode_lower}

-- a word, with the space in front
abbrev pub after_space : List ℕ → List ℕ
after_space word = codes " " ++ word

-- words, each after a space
abbrev pub spaced : List (List ℕ) → List ℕ
spaced words = flat_map after_space words

-- a line: its first word, the other words, and a line feed
unfoldable pub line : List ℕ → List (List ℕ) → List ℕ
line first words = first ++ spaced words ++ codes "\n"

-- lines as one text
abbrev pub text_of_lines : List (List ℕ) → List ℕ
text_of_lines lines = flat_map (λ line. line) lines

-- no line feed stands in it
abbrev pub NoFeed : List ℕ → Type 0
NoFeed text = AllByRecursion (λ (b : ℕ). b ≢ 10) text

-- the word for a body: two digits a byte, in lower case, or a hyphen where it is empty
unfoldable pub body_word : List ℕ → List ℕ
body_word [] = codes "-"
body_word (b ∷ more) = encode_lower (b ∷ more)
