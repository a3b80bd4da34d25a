-- Keys, and lists whose items have keys. The argument `key_of` tells the key of an item.
use Rattle.std.specs.Prelude.{◌≢◌, ⊤, ℕ, suc, Bool, ◌==◌, ◌&&◌, if◌then◌else◌, List, [], ◌∷◌, Option, None, Some, option_map, find}
use Rattle.std.specs.List.{list_any}
use Rattle.std.specs.Ordering.{nat_cmp, ordering_then}
use Rattle.std.specs.declared.cmp.Ordering.{Ordering}
use Rattle.object.specs.declared.command.Key.{Key}
use Rattle.object.specs.Lists.{In}

-- the keys are one
abbrev pub same_key : Key → Key → Bool
same_key a b = a.session == b.session && a.number == b.number

-- keys in order: by session, and then by number
abbrev pub key_cmp : Key → Key → Ordering
key_cmp a b = ordering_then (nat_cmp a.session b.session) (nat_cmp a.number b.number)

-- an item has the key
abbrev pub stands : {X : Type 0} → (X → Key) → Key → List X → Bool
stands key_of key items = list_any (λ x. same_key (key_of x) key) items

-- the first item that has the key
abbrev pub found : {X : Type 0} → (X → Key) → Key → List X → Option X
found key_of key items = find (λ x. same_key (key_of x) key) items

-- the place of that item, counted from 0
abbrev pub place_of : {X : Type 0} → (X → Key) → Key → List X → Option ℕ
place_of key_of key [] = None
place_of key_of key (x ∷ xs) = if same_key (key_of x) key then Some 0 else option_map suc (place_of key_of key xs)

-- no key stands in two of the items
abbrev pub KeysOnce : {X : Type 0} → (X → Key) → List X → Type 0
KeysOnce key_of [] = ⊤
KeysOnce {X} key_of (x ∷ more) = ((y : X) → In y more → key_of y ≢ key_of x) × KeysOnce key_of more
