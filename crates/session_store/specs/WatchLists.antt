-- The tubes that a session watches.
use Rattle.std.specs.Prelude.{ℕ, Bool, false, not, List, [], ◌∷◌, ◌++◌, filter, bytes_eq, if◌then◌else◌}
use Rattle.job_store.specs.LookUps.{is_among}

-- the names, and the tube last if it is new
abbrev pub joined : List ℕ → List (List ℕ) → List (List ℕ)
joined tube names = if is_among tube names then names else names ++ tube ∷ []

-- the names but the tube
abbrev pub left_out : List ℕ → List (List ℕ) → List (List ℕ)
left_out tube names = filter (λ n. not (bytes_eq tube n)) names

-- the names are the tube alone
abbrev pub is_alone : List ℕ → List (List ℕ) → Bool
is_alone tube [] = false
is_alone tube (n ∷ []) = bytes_eq tube n
is_alone tube (n ∷ m ∷ ns) = false
