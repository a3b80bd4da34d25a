-- What a shelf is seen as, and how its places change.
use Rattle.std.specs.Prelude.{◌≡◌, ℕ, ◌<◌, ◌≤◌, ◌⊎◌, List, []}
use Rattle.object.specs.Lists.{In}

-- the places on a shelf, and the one at which look-ups begin
pub record ShelfState : Type 0 where
  pub places : List (ℕ × ℕ)
  pub from : ℕ × ℕ

-- a shelf without places
abbrev pub bare : ShelfState
bare = record { places = []; from = (0, 0) }

-- a place by a number of any kind and an id, as one by numbers alone
abbrev pub numbered_place : {N : Type 0} → (N → ℕ) → N × ℕ → ℕ × ℕ
numbered_place value p = (value p.0, p.1)

-- place p is not before this one
abbrev pub IsFrom : ℕ × ℕ → ℕ × ℕ → Type 0
IsFrom from p = (from.0 < p.0) ⊎ ((from.0 ≡ p.0) × (from.1 ≤ p.1))

-- the place is on the shelf, and not before that at which look-ups begin
abbrev pub IsFound : ShelfState → ℕ × ℕ → Type 0
IsFound s p = In p s.places × IsFrom s.from p

-- at most this place came onto the shelf, and look-ups begin nowhere later
pub record HasGained (old new : ShelfState) (place : ℕ × ℕ) : Type 0 where
  pub keeps : (p : ℕ × ℕ) → In p old.places → In p new.places
  pub only : (p : ℕ × ℕ) → In p new.places → In p old.places ⊎ (p ≡ place)
  pub ahead : (p : ℕ × ℕ) → IsFrom old.from p → IsFrom new.from p

-- Of the places that look-ups found this one alone went from the shelf, if it was there. It is there no more, and look-ups
-- begin nowhere later.
pub record HasLost (old new : ShelfState) (place : ℕ × ℕ) : Type 0 where
  pub keeps : (p : ℕ × ℕ) → IsFound old p → (p ≡ place → ⊥) → In p new.places
  pub only : (p : ℕ × ℕ) → In p new.places → In p old.places × (p ≡ place → ⊥)
  pub ahead : (p : ℕ × ℕ) → IsFrom old.from p → IsFrom new.from p

-- the places are the same, and look-ups begin nowhere later, and not after this place
pub record HasReached (old new : ShelfState) (place : ℕ × ℕ) : Type 0 where
  pub places : new.places ≡ old.places
  pub ahead : (p : ℕ × ℕ) → IsFrom old.from p → IsFrom new.from p
  pub reached : IsFrom new.from place
