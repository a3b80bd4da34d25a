-- How changes of values by name are taken back.
use Rattle.std.specs.Prelude.{◌≡◌, ℕ, List, [], ◌∷◌}
use Rattle.std.specs.List.Sorted.{IsStrictlySortedBy}
use Rattle.std.specs.Map.{keys_of, remove_entry, set_value}
use Rattle.std.specs.BTreeMap.{is_at}
use Rattle.bean_words.specs.Names.{name_cmp}
use Rattle.tube_store.specs.declared.name_step.NameStep.{NameStep}

-- the map, where a step is taken back
abbrev pub step_back : {V : Type 0} → NameStep V → List (List ℕ × V) → List (List ℕ × V)
step_back (NameStep.Begun tube) es = remove_entry (is_at (name_cmp tube)) es
step_back (NameStep.Changed tube before) es = set_value (is_at (name_cmp tube)) es before

-- the map, where all these steps are taken back, the last one first
abbrev pub before_steps : {V : Type 0} → List (NameStep V) → List (List ℕ × V) → List (List ℕ × V)
before_steps [] es = es
before_steps (step ∷ steps) es = step_back step (before_steps steps es)

-- the tubes stand in the order of their names, each once
abbrev pub AreByName : {V : Type 0} → List (List ℕ × V) → Type 0
AreByName es = IsStrictlySortedBy name_cmp (keys_of es)

-- the map, in that order, has become this
pub record GoesTo {V : Type 0} (es wanted : List (List ℕ × V)) : Type 0 where
  pub same : es ≡ wanted
  pub ordered : AreByName es
