-- Shelves by a name of their own.
use Rattle.std.specs.Prelude.{◌≡◌}
use Rattle.std.specs.declared.cmp.Ordering.{Ordering}
use Rattle.std.specs.Option.{unwrap_or}
use Rattle.std.specs.BTreeMap.{BTreeMap, get}
use Rattle.job_store.specs.ShelfStates.{ShelfState, bare}

-- the shelf with this name, where there is none a bare one
abbrev pub shelf_at : {K : Type 0} → (K → K → Ordering) → BTreeMap K ShelfState → K → ShelfState
shelf_at cmp shelves k = unwrap_or (get cmp shelves k) bare

-- all shelves but the one with this name are the same
abbrev pub AreOthersKept : {K : Type 0} → (K → K → Ordering) → K → BTreeMap K ShelfState → BTreeMap K ShelfState → Type 0
AreOthersKept {K} cmp k old new = (q : K) → (q ≡ k → ⊥) → shelf_at cmp new q ≡ shelf_at cmp old q

-- the shelf with this name changes so, and all others are the same
pub record ChangesOne {K : Type 0} (cmp : K → K → Ordering) (k : K) (old new : BTreeMap K ShelfState)
    (How : ShelfState → ShelfState → Type 0) : Type 0 where
  pub change : How (shelf_at cmp old k) (shelf_at cmp new k)
  pub others : AreOthersKept cmp k old new
