-- Names that are put among others.
use Rattle.std.specs.Prelude.{ℕ, ◌⊎◌, List, Result, OnOk}
use Rattle.object.specs.Lists.{In}

-- no name goes, and each that comes is such a one
pub record AddsOnly (Such : List ℕ → Type 0) (old new : List (List ℕ)) : Type 0 where
  pub kept : (name : List ℕ) → In name old → In name new
  pub only : (name : List ℕ) → In name new → In name old ⊎ Such name

-- and unless memory was refused, all such names are there
pub record AddsAll {E : Type 0} (Such : List ℕ → Type 0) (old new : List (List ℕ)) (result : Result Unit E) : Type 0 where
  pub kept : (name : List ℕ) → In name old → In name new
  pub only : (name : List ℕ) → In name new → In name old ⊎ Such name
  pub all : OnOk result ((name : List ℕ) → Such name → In name new)
