-- A set for each tube.
use Rattle.std.specs.Prelude.{ℕ, List, [], unwrap_or}
use Rattle.std.specs.BTreeMap.{BTreeMap, get}
use Rattle.std.specs.BTreeSet.{BTreeSet}
use Rattle.bean_words.specs.Names.{name_cmp}

-- the set of a tube, which is empty where there is none
abbrev pub tube_set : {K : Type 0} → List ℕ → BTreeMap (List ℕ) (BTreeSet K) → BTreeSet K
tube_set tube sets = unwrap_or (get name_cmp sets tube) (record { keys = [] })
