-- How a list of items is kept beside the places of its keys.
use Rattle.std.specs.Prelude.{◌≡◌, ℕ, List}
use Rattle.object.specs.declared.command.Key.{Key}
use Rattle.object.specs.Keys.{place_of, KeysOnce}
use Rattle.object.specs.KeyMaps.{at_key}

-- no key stands twice, and the map has for each key the place of its item, and nothing else
pub record IsIndexed {X : Type 0} (key_of : X → Key) (places : List (ℕ × List (ℕ × ℕ))) (items : List X) : Type 0 where
  pub at : (k : Key) → at_key places k ≡ place_of key_of k items
  pub once : KeysOnce key_of items
