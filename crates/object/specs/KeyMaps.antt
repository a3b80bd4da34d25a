-- Maps by key, as lists of sessions, each with its map by number.
use Rattle.std.specs.Prelude.{ℕ, List, Option, None, Some, option_and_then, if◌then◌else◌}
use Rattle.std.specs.BTreeMap.{is_at}
use Rattle.std.specs.Map.{lookup}
use Rattle.std.specs.Ordering.{nat_cmp}
use Rattle.object.specs.declared.command.Key.{Key}
use Rattle.object.specs.Keys.{same_key}
use Rattle.object.specs.NumberMaps.{value_of}

-- the value of a key
abbrev pub at_key : {V : Type 0} → List (ℕ × List (ℕ × V)) → Key → Option V
at_key sessions key = option_and_then (λ numbers. value_of numbers key.number) (lookup (is_at (nat_cmp key.session)) sessions)

-- the values, with this one for the key
abbrev pub with_key : {V : Type 0} → (Key → Option V) → Key → V → Key → Option V
with_key values key value q = if same_key key q then Some value else values q

-- the values, without the key's
abbrev pub without_key : {V : Type 0} → (Key → Option V) → Key → Key → Option V
without_key values key q = if same_key key q then None else values q
