-- The least of the entries that pass a test: by a number of each value, and then by key.
use Rattle.std.specs.Prelude.{◌≡◌, ℕ, ◌<◌, Bool, true, ◌&&◌, ◌||◌, ◌⊎◌, List, [], ◌∷◌, Option, None, Some, ◌==◌, nat_lt, if◌then◌else◌}
use Rattle.object.specs.Lists.{In}

module _ {X : Type 0} (by : X → ℕ) where
  -- the pair of number and key of the first of two entries is the smaller
  abbrev pub ComesBefore : ℕ × X → ℕ × X → Type 0
  ComesBefore d e = (by d.1 < by e.1) ⊎ ((by d.1 ≡ by e.1) × (d.0 < e.0))

  -- whether the pair of the first is the smaller
  abbrev pub comes_before : ℕ × X → ℕ × X → Bool
  comes_before d e = nat_lt (by d.1) (by e.1) || (by d.1 == by e.1 && nat_lt d.0 e.0)

  -- an entry, or the other one where there is one that comes before it
  abbrev pub lesser : ℕ × X → Option (ℕ × X) → ℕ × X
  lesser e None = e
  lesser e (Some d) = if comes_before d e then d else e

  -- of two entries that there may be, the one that comes first
  abbrev pub first_of : Option (ℕ × X) → Option (ℕ × X) → Option (ℕ × X)
  first_of None o = o
  first_of (Some e) o = Some (lesser e o)

module _ {X : Type 0} (test : ℕ × X → Bool) where
  -- an entry of es passes, and of those that pass none comes before it
  pub record IsLeast (by : X → ℕ) (es : List (ℕ × X)) (e : ℕ × X) : Type 0 where
    pub member : In e es
    pub passes : test e ≡ true
    pub least : (d : ℕ × X) → In d es → test d ≡ true → ComesBefore by d e → ⊥

  -- no entry of es passes
  abbrev pub NonePasses : List (ℕ × X) → Type 0
  NonePasses es = (e : ℕ × X) → In e es → test e ≡ true → ⊥

  -- the least of those that pass, where there is one
  abbrev pub least : (X → ℕ) → List (ℕ × X) → Option (ℕ × X)
  least by [] = None
  least by (e ∷ es) = if test e then Some (lesser by e (least by es)) else least by es
