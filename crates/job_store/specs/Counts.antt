-- How many places there are on shelves.
use Rattle.std.specs.Prelude.{◌≡◌, ℕ, ◌<◌, ◌^◌, Bool, nat_lt, List, [], ◌∷◌, ◌++◌, length}
use Rattle.std.specs.declared.cmp.Ordering.{Ordering}
use Rattle.std.specs.List.{filter}
use Rattle.std.specs.BTreeMap.{BTreeMap, IsOrdered}
use Rattle.object.specs.Lists.{In}
use Rattle.job_store.specs.declared.count.Count.{Count}
use Rattle.job_store.specs.ShelfStates.{ShelfState}

-- the number of the place is below 1024
abbrev pub is_low : ℕ × ℕ → Bool
is_low p = nat_lt p.0 1024

-- how many places there are, and how many of them are low
abbrev pub count_of : List (ℕ × ℕ) → Count
count_of places = record { all = length places; low = length (filter is_low places) }

-- no place is there twice
abbrev pub AreApart : List (ℕ × ℕ) → Type 0
AreApart [] = Unit {0}
AreApart (p ∷ ps) = (In p ps → ⊥) × AreApart ps

-- the places of all these shelves
abbrev pub all_places : {K : Type 0} → List (K × ShelfState) → List (ℕ × ℕ)
all_places [] = []
all_places (e ∷ es) = e.1.places ++ all_places es

-- The names of the shelves rise, and on none of them a place is twice. The total is the count of all their places, if
-- 64 bits can tell it.
pub record AreCounted {K : Type 0} (cmp : K → K → Ordering) (shelves : BTreeMap K ShelfState) (total : Count) : Type 0 where
  pub ordered : IsOrdered cmp shelves
  pub apart : (e : K × ShelfState) → In e shelves.entries → AreApart e.1.places
  pub count : length (all_places shelves.entries) < 2 ^ 64 → total ≡ count_of (all_places shelves.entries)
