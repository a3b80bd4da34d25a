-- What a report tells a scout that it doesn't know yet.
use Rattle.std.specs.Prelude.{List, [], ◌∷◌, ◌⊎◌, ⊤, length, drop}
use Rattle.object.specs.Lists.{In}
use Rattle.ballot.specs.declared.pvalue.Pvalue.{Pvalue}

-- no element stands twice
abbrev pub IsOnce : {X : Type 0} → List X → Type 0
IsOnce [] = ⊤
IsOnce (x ∷ xs) = (In x xs → ⊥) × IsOnce xs

-- what is fresh of a report, where these were gathered: all that isn't among them, each pvalue once
pub record IsFresh {C : Type 0} (gathered report fresh : List (Pvalue C)) : Type 0 where
  pub part : (p : Pvalue C) → In p fresh → In p report
  pub all : (p : Pvalue C) → In p report → In p gathered ⊎ In p fresh
  pub new : (p : Pvalue C) → In p fresh → In p gathered → ⊥
  pub once : IsOnce fresh

-- the report has a pvalue that isn't among those that were gathered
abbrev pub HasNews : {C : Type 0} → List (Pvalue C) → List (Pvalue C) → Type 0
HasNews {C} gathered report = (p : Pvalue C) × In p report × (In p gathered → ⊥)

-- what a longer list has after the elements of a shorter one
abbrev pub beyond : {X : Type 0} → List X → List X → List X
beyond short long = drop (length short) long
