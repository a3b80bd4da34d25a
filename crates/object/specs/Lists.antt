-- Words on lists.
use Rattle.std.specs.Prelude.{◌≡◌, List, [], ◌∷◌, ◌++◌, ◌⊎◌}

-- x is an element
abbrev pub In : {X : Type 0} → X → List X → Type 0
In x [] = ⊥
In x (y ∷ ys) = (x ≡ y) ⊎ In x ys

-- the one list is a beginning of the other
abbrev pub IsBeginning : {X : Type 0} → List X → List X → Type 0
IsBeginning {X} first whole = (more : List X) × (whole ≡ first ++ more)
