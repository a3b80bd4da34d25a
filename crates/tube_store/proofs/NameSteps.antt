-- The steps that take changes back.
use Rattle.std.proofs.Common.{◌≡◌, ℕ, List, [], ◌∷◌, ◌++◌, Some, None, refl, sym, ap, ap₂, ◌∙◌}
use Rattle.std.specs.Map.{lookup, set_value}
use Rattle.std.specs.BTreeMap.{insert_entry, is_at}
use Rattle.bean_words.specs.Names.{name_cmp}
use Rattle.tube_store.specs.declared.name_step.NameStep.{NameStep}
use Rattle.tube_store.specs.NameSteps.{step_back, before_steps}
use Rattle.tube_store.proofs.NameMaps.{set-back, remove-insert}

module _ {V : Type 0} where
  before-push : (steps : List (NameStep V)) (step : NameStep V) (es : List (List ℕ × V))
      → before_steps (steps ++ step ∷ []) es ≡ before_steps steps (step_back step es)
  before-push [] step es = refl
  before-push (s ∷ steps) step es = ap (step_back s) (before-push steps step es)

  -- one step more
  pub before-step : (steps more : List (NameStep V)) (step : NameStep V) (es fs : List (List ℕ × V))
      → more ≡ steps ++ step ∷ [] → step_back step fs ≡ es → before_steps more fs ≡ before_steps steps es
  before-step steps more step es fs is back = ap (λ zs. before_steps zs fs) is ∙ before-push steps step fs ∙ ap (before_steps steps) back

  -- one step less
  pub before-less : (steps fewer : List (NameStep V)) (step : NameStep V) (es fs before : List (List ℕ × V))
      → steps ≡ fewer ++ step ∷ [] → before_steps steps es ≡ before → fs ≡ step_back step es
      → before_steps fewer fs ≡ before
  before-less steps fewer step es fs before is was back =
      ap (before_steps fewer) back ∙ sym (before-push fewer step es) ∙ sym (ap (λ zs. before_steps zs es) is) ∙ was

  -- the step after a tube was given its first value
  pub begun-back : (tube t u : List ℕ) (v : V) (es fs : List (List ℕ × V)) → t ≡ tube → u ≡ tube
      → fs ≡ insert_entry name_cmp es u v → lookup (is_at (name_cmp tube)) es ≡ None
      → step_back (NameStep.Begun t) fs ≡ es
  begun-back tube t u v es fs a b is absent =
      ap (step_back (NameStep.Begun t)) is ∙ ap₂ (λ x y. step_back (NameStep.Begun x) (insert_entry name_cmp es y v)) a b ∙ remove-insert tube v es absent

  -- the step after a tube's value was changed
  pub changed-back : (tube t : List ℕ) (v old : V) (es fs : List (List ℕ × V)) → t ≡ tube
      → fs ≡ set_value (is_at (name_cmp tube)) es v → lookup (is_at (name_cmp tube)) es ≡ Some old
      → step_back (NameStep.Changed t old) fs ≡ es
  changed-back tube t v old es fs a is there = ap₂ (λ x zs. step_back (NameStep.Changed x old) zs) a is ∙ set-back tube v old es there
