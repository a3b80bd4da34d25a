-- Values by slot.
use Rattle.std.specs.Prelude.{ℕ, map}
use Rattle.std.specs.Ordering.{nat_cmp}
use Rattle.std.specs.Coded.{Coded, coded_ℕ}
use Rattle.std.specs.FinMap.{FinMap, entries, from_entries, code}

-- a map by slot
abbrev pub Slots : Type 0 → Type 0
Slots X = FinMap nat_cmp X

-- how such a map is stored, by how its values are
abbrev pub slots_code : {X : Type 0} → Coded X → Coded (Slots X)
slots_code x = code coded_ℕ x

-- the same slots, each with what f makes of it and its value
abbrev pub each_value : {X Y : Type 0} → (ℕ → X → Y) → Slots X → Slots Y
each_value f m = from_entries (map (λ e. (e.0, f e.0 e.1)) (entries m))
