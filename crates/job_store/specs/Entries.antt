-- Words on lists of entries, which stand for finite maps from numbers: the keys rise strictly.
use Rattle.std.specs.Prelude.{ℕ, suc, ◌≤◌, not, List, [], ◌∷◌, map, filter, Option, ◌==◌, if◌then◌else◌}
use Rattle.std.specs.Ordering.{nat_cmp}
use Rattle.std.specs.Map.{lookup}
use Rattle.std.specs.BTreeMap.{is_at, insert_entry}

-- the keys rise, from lo on, and all are below hi
abbrev pub Rising : {X : Type 0} → ℕ → ℕ → List (ℕ × X) → Type 0
Rising lo hi [] = lo ≤ hi
Rising lo hi (e ∷ es) = (lo ≤ e.0) × Rising (suc e.0) hi es

-- the value at a key
abbrev pub value_at : {X : Type 0} → ℕ → List (ℕ × X) → Option X
value_at k es = lookup (is_at (nat_cmp k)) es

-- the entries, with this value at k: it takes the place of the one that is there, or its own place in the order
abbrev pub with_value : {X : Type 0} → ℕ → X → List (ℕ × X) → List (ℕ × X)
with_value k v es = insert_entry nat_cmp es k v

-- the same keys, each with what f makes of its value
abbrev pub each_value : {X : Type 0} → (X → X) → List (ℕ × X) → List (ℕ × X)
each_value f es = map (λ e. (e.0, f e.1)) es

-- the entries, with the value at k changed
abbrev pub altered : {X : Type 0} → ℕ → (X → X) → List (ℕ × X) → List (ℕ × X)
altered k f es = map (λ e. (e.0, if k == e.0 then f e.1 else e.1)) es

-- the entries but that at k
abbrev pub without : {X : Type 0} → ℕ → List (ℕ × X) → List (ℕ × X)
without k es = filter (λ e. not (k == e.0)) es
