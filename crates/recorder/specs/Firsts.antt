-- The first item of each key in a list.
use Rattle.std.specs.Prelude.{◌≡◌, not, List, [], ◌∷◌, ◌++◌, filter}
use Rattle.object.specs.declared.command.Key.{Key}
use Rattle.object.specs.Keys.{same_key}

-- the items with another key
abbrev pub others : {X : Type 0} → (X → Key) → Key → List X → List X
others key_of key items = filter (λ x. not (same_key (key_of x) key)) items

-- each item whose key does not stand earlier, in their order
abbrev pub firsts : {X : Type 0} → (X → Key) → List X → List X
firsts key_of [] = []
firsts key_of (x ∷ xs) = x ∷ others key_of (key_of x) (firsts key_of xs)

-- the firsts of two lists in a row are the same where the first of them is cut down to its own firsts
abbrev pub CutsBefore : {X : Type 0} → (X → Key) → List X → List X → Type 0
CutsBefore key_of xs ys = firsts key_of (xs ++ ys) ≡ firsts key_of (firsts key_of xs ++ ys)
