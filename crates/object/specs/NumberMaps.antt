-- Maps by number, as lists of pairs of a number and a value, in which the numbers rise.
use Rattle.std.specs.Prelude.{◌≡◌, ℕ, ◌<◌, ◌≤◌, List, [], ◌∷◌, length, if◌then◌else◌, ◌==◌, slice_index_or, Some, None, Option}

-- the value of the first pair that has the number
abbrev pub value_of : {V : Type 0} → List (ℕ × V) → ℕ → Option V
value_of [] number = None
value_of (e ∷ es) number = if e.0 == number then Some e.1 else value_of es number

-- the number of the pair at place i; past the last one, that of d
abbrev pub number_at : {V : Type 0} → List (ℕ × V) → ℕ → ℕ × V → ℕ
number_at es i d = let pair = slice_index_or es i d in pair.0

-- the numbers rise, so none comes twice
abbrev pub Rises : {V : Type 0} → List (ℕ × V) → Type 0
Rises {V} es = (i j : ℕ) (d : ℕ × V) → i < j → j < length es → number_at es i d < number_at es j d

-- the pair at place i has the number
pub record IsAt {V : Type 0} (es : List (ℕ × V)) (number i : ℕ) : Type 0 where
  pub in_range : i < length es
  pub has : (d : ℕ × V) → number_at es i d ≡ number

-- the number would go at place i: smaller ones before it, and greater ones from it on
pub record IsGapFor {V : Type 0} (es : List (ℕ × V)) (number i : ℕ) : Type 0 where
  pub in_range : i ≤ length es
  pub smaller : (j : ℕ) (d : ℕ × V) → j < i → number_at es j d < number
  pub greater : (j : ℕ) (d : ℕ × V) → i ≤ j → j < length es → number < number_at es j d

-- the number has this value in the new map, and every other one what it has in the old
abbrev pub Sets : {V : Type 0} → List (ℕ × V) → List (ℕ × V) → ℕ → V → Type 0
Sets old new number value = (q : ℕ) → value_of new q ≡ (if number == q then Some value else value_of old q)

-- the number has none in the new map, and every other one what it has in the old
abbrev pub Lacks : {V : Type 0} → List (ℕ × V) → List (ℕ × V) → ℕ → Type 0
Lacks old new number = (q : ℕ) → value_of new q ≡ (if number == q then None else value_of old q)
