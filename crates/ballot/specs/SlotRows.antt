-- Values by slot of which some lie in a row: those of a first slot and of the slots that follow it.
use Rattle.std.specs.Prelude.{ℕ, ◌+◌, ◌-◌, nat_le, List, [], ◌∷◌, slice_get, Option, None, Some, option_and_then, if◌then◌else◌}
use Rattle.std.specs.Ordering.{nat_cmp, eq_by_cmp}
use Rattle.std.specs.FinMap.{insert}
use Rattle.ballot.specs.Slots.{Slots}

-- the value that the row has for a slot, if it has one
abbrev pub in_row : {X : Type 0} → ℕ → List (Option X) → ℕ → Option X
in_row first row s = if nat_le first s then option_and_then (λ o. o) (slice_get row (s - first)) else None

-- a map, with the values of the row in place of its own
unfoldable pub with_row : {X : Type 0} → ℕ → List (Option X) → Slots X → Slots X
with_row first [] m = m
with_row first (None ∷ row) m = with_row (first + 1) row m
with_row first (Some x ∷ row) m = insert (with_row (first + 1) row m) first x

-- what is answered for each slot, but for one slot another
abbrev pub but_at : {X : Type 0} → (ℕ → Option X) → ℕ → Option X → ℕ → Option X
but_at look k o s = if eq_by_cmp nat_cmp s k then o else look s
