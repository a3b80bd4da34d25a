-- What nodes send one another.
use Rattle.std.specs.Prelude.{ℕ, List, map}
use Rattle.std.specs.List.{flat_map}
use Rattle.ballot.specs.declared.letter.LetterBody.{LetterBody}
use Rattle.ballot.specs.declared.letter.Letter.{Letter}
use Rattle.ballot.specs.Members.{numbers}

abbrev pub letter : {C : Type 0} → ℕ → LetterBody C → ℕ → Letter C
letter n body m = record { «from» = n; to = m; body = body }

-- one body to all members, in rising number, the sender included
abbrev pub to_all : {C : Type 0} → List ℕ → ℕ → LetterBody C → List (Letter C)
to_all weights n body = map (letter n body) (numbers weights)

-- some bodies to all, one after the other
abbrev pub all_to_all : {C : Type 0} → List ℕ → ℕ → List (LetterBody C) → List (Letter C)
all_to_all weights n bodies = flat_map (to_all weights n) bodies
