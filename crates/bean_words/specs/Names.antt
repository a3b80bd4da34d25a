-- What a tube may be called (protocol.txt of beanstalkd, the part on names at its beginning, and "use": a tube's name
-- has at most 200 bytes).
use Rattle.std.specs.Prelude.{◌≡◌, ℕ, ◌≤◌, ◌⊎◌, List, length, slice_get, Option, Some, codes}
use Rattle.std.specs.declared.cmp.Ordering.{Ordering}
use Rattle.std.specs.Ordering.{nat_cmp}
use Rattle.std.specs.Cmp.Lexicographic.{slice_cmp}
use Rattle.std.specs.Option.{unwrap_or}
use Rattle.object.specs.Lists.{In}

-- A to Z, a to z, 0 to 9, or one of the nine signs
abbrev pub IsNameByte : ℕ → Type 0
IsNameByte b =
    ((65 ≤ b) × (b ≤ 90)) ⊎ ((97 ≤ b) × (b ≤ 122)) ⊎ ((48 ≤ b) × (b ≤ 57)) ⊎ In b (codes "-+/;.$_()")

-- a name may have each of the bytes
abbrev pub AreNameBytes : List ℕ → Type 0
AreNameBytes name = (b : ℕ) → In b name → IsNameByte b

-- a hyphen, 45, stands first
abbrev pub BeginsWithHyphen : List ℕ → Type 0
BeginsWithHyphen name = slice_get name 0 ≡ Some 45

-- these bytes are the name of a tube
pub record IsName (name : List ℕ) : Type 0 where
  pub some : 1 ≤ length name
  pub few : length name ≤ 200
  pub bytes : AreNameBytes name
  pub first : BeginsWithHyphen name → ⊥

-- the bytes of a name, where no bytes of its own stand for `default`
abbrev pub name_bytes : Option (List ℕ) → List ℕ
name_bytes own = unwrap_or own (codes "default")

-- the order of names: that of their bytes
abbrev pub name_cmp : List ℕ → List ℕ → Ordering
name_cmp = slice_cmp nat_cmp
