-- Where the command of each key stands.
use Rattle.std.specs.Prelude.{◌≡◌, ℕ, ◌-◌, Bool, true, false, ◌||◌, nat_le, List}
use Rattle.std.specs.Prelude.{[], ◌∷◌, ◌++◌, slice_get, Option, None, Some, is_some, option_and_then, if◌then◌else◌}
use Rattle.std.specs.List.{list_any}
use Rattle.std.specs.Option.{option_map_or}
use Rattle.object.specs.declared.command.Key.{Key}
use Rattle.object.specs.KeyMaps.{with_key}
use Rattle.std.specs.FinMap.{get}
use Rattle.ballot.specs.Slots.{Slots}
use Rattle.slot_log.specs.declared.places.Place.{Place}
use Rattle.slot_log.specs.declared.places.Place.TheVariants.{Requested, Proposed, Decided}

-- a place that is noted for a key, unless it has one
abbrev pub with_new_key : (Key → Option Place) → Key → Place → Key → Option Place
with_new_key look key place q = if is_some (look key) then look q else with_key look key place q

-- and the other commands, to which this one comes where its key has a place
abbrev pub others_noted : {C : Type 0} → Option Place → List C → C → List C
others_noted place others c = if is_some place then others ++ c ∷ [] else others

-- the request of a rank, where the first one is of rank `front`
abbrev pub ranked : {C : Type 0} → List C → ℕ → ℕ → Option C
ranked requests front rank = if nat_le front rank then slice_get requests (rank - front) else None

-- what stands at a place, where the first request is of rank `front`
abbrev pub stands_at : {C : Type 0} → List C → ℕ → Slots C → Slots C → Place → Option C
stands_at requests front proposals decisions (Requested rank) = ranked requests front rank
stands_at requests front proposals decisions (Proposed s) = get proposals s
stands_at requests front proposals decisions (Decided s) = get decisions s

-- the command stands at the place of its key, or is one of the others
abbrev pub is_found : {C : Type 0} → (C → C → Bool) → (C → Key) → (Key → Option Place) → (Place → Option C) → List C → C → Bool
is_found same key_of look stands others c =
    option_map_or (λ d. same d c) (option_and_then stands (look (key_of c))) false || list_any (λ d. same d c) others

-- each command that stands at a place is found
abbrev pub AreFound : {C : Type 0} → (C → C → Bool) → (C → Key) → (Key → Option Place) → (Place → Option C) → List C → Type 0
AreFound {C} same key_of look stands others = (p : Place) (c : C) → stands p ≡ Some c → is_found same key_of look stands others c ≡ true

-- the place, unless it is a decision's of a slot below the base
abbrev pub place_from : ℕ → Option Place → Option Place
place_from base None = None
place_from base (Some (Requested rank)) = Some (Requested rank)
place_from base (Some (Proposed s)) = Some (Proposed s)
place_from base (Some (Decided s)) = if nat_le base s then Some (Decided s) else None
