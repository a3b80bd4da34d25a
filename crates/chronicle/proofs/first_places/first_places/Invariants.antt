use Rattle.std.proofs.Common.{◌≡◌, ◌≤◌, ◌+◌, length, drop}
use Rattle.std.specs.Option.{option_map}
use Rattle.std.specs.BTreeMap.{get}
use Rattle.object.specs.Keys.{key_cmp, place_of}
use Rattle.object.specs.declared.command.Key.{Key}
use Rattle.chronicle.proofs.first_places.first_places.Given as goal

-- the places of the items from here on are told
abbrev pub invariant-loop-place : goal.invariant-loop-place
invariant-loop-place g l = record {
  told : (k : Key) → get key_cmp l.places k ≡ option_map (λ n. l.place + n) (place_of g.X.Keyed.key_of k (drop l.place l.items));
  within : l.place ≤ length l.items;
}
