-- The sets of tubes, one of which is written.
use Rattle.std.proofs.Common.{◌≡◌, ℕ, true, false, cond, inl, inr, List, [], Option, Some, None, IsSome, refl, sym, ap}
use Rattle.std.proofs.Common.{ap₂, subst, ◌∙◌, true≢false, unwrap_or, ◌⊎◌}
use Rattle.std.specs.declared.cmp.Ordering.{Ordering}
use Rattle.std.specs.List.{list_any}
use Rattle.std.specs.BTreeMap.{BTreeMap, get, is_at, WritesThrough}
use Rattle.std.specs.BTreeSet.{BTreeSet, contains}
use Rattle.bean_words.specs.Names.{name_cmp}
use Rattle.bean_words.proofs.naming.NameSets.{at-name}
use Rattle.session_store.specs.TubeSets.{tube_set}

module _ {K : Type 0} (cmp : K → K → Ordering) where
  -- the set of a tube is the one that was written for it, or as it was
  written : (tube t : List ℕ) (sets sets' : BTreeMap (List ℕ) (BTreeSet K)) (w : Option (BTreeSet K))
      → get name_cmp sets' t ≡ cond (is_at (name_cmp tube) t) w (get name_cmp sets t)
      → ((tube ≡ t) × (tube_set t sets' ≡ unwrap_or w (record { keys = [] }))) ⊎ (tube_set t sets' ≡ tube_set t sets)
  written tube t sets sets' w e =
      elim (is_at (name_cmp tube) t) as (λ b. is_at (name_cmp tube) t ≡ b
      → get name_cmp sets' t ≡ cond b w (get name_cmp sets t)
      → ((tube ≡ t) × (tube_set t sets' ≡ unwrap_or w (record { keys = [] })))
      ⊎ (tube_set t sets' ≡ tube_set t sets)) [
        | true ↦ λ a e. inl (at-name tube t a, ap (λ o. unwrap_or o (record { keys = [] })) e)
        | false ↦ λ a e. inr (ap (λ o. unwrap_or o (record { keys = [] })) e)
      ] refl e

  -- what is in the set of a tube is so afterwards, if the set that is written has it
  pub set-kept : (tube t : List ℕ) (k : K) (sets sets' : BTreeMap (List ℕ) (BTreeSet K)) (w : Option (BTreeSet K))
      → get name_cmp sets' t ≡ cond (is_at (name_cmp tube) t) w (get name_cmp sets t)
      → (t ≡ tube → contains cmp (tube_set tube sets) k ≡ true
      → contains cmp (unwrap_or w (record { keys = [] })) k ≡ true) → contains cmp (tube_set t sets) k ≡ true
      → contains cmp (tube_set t sets') k ≡ true
  set-kept tube t k sets sets' w e kept h =
      elim (written tube t sets sets' w e) as (λ v. contains cmp (tube_set t sets') k ≡ true) [
        | inl here ↦ subst (λ s. contains cmp s k ≡ true) (sym here.1) (kept (sym here.0) (subst (λ u. contains cmp (tube_set u sets) k ≡ true) (sym here.0) h))
        | inr apart ↦ subst (λ s. contains cmp s k ≡ true) (sym apart) h
      ]

  pub found-set : (tube : List ℕ) (sets : BTreeMap (List ℕ) (BTreeSet K)) (set : BTreeSet K) → get name_cmp sets tube ≡ Some set → tube_set tube sets ≡ set
  found-set tube sets set e = ap (λ o. unwrap_or o (record { keys = [] })) e

  pub no-set : (tube : List ℕ) (sets : BTreeMap (List ℕ) (BTreeSet K)) → get name_cmp sets tube ≡ None → tube_set tube sets ≡ record { keys = [] }
  no-set tube sets e = ap (λ o. unwrap_or o (record { keys = [] })) e

  -- the same of what is written through a reference to the set
  pub set-put : (tube t : List ℕ) (k : K) (sets sets' : BTreeMap (List ℕ) (BTreeSet K)) (set set' : BTreeSet K)
      → Some set ≡ get name_cmp sets tube → WritesThrough name_cmp (name_cmp tube) sets set' sets'
      → (t ≡ tube → contains cmp set k ≡ true → contains cmp set' k ≡ true) → contains cmp (tube_set t sets) k ≡ true
      → contains cmp (tube_set t sets') k ≡ true
  set-put tube t k sets sets' set set' value writes kept h =
      set-kept tube t k sets sets' (Some set') ((writes.3 (subst (λ o. IsSome o) value refl)).0 t)
      (λ same old. kept same (subst (λ s. contains cmp s k ≡ true) (found-set tube sets set (sym value)) old)) h

  -- and of a set that is new
  pub set-new : (tube tube' t : List ℕ) (k : K) (sets sets' same-sets : BTreeMap (List ℕ) (BTreeSet K))
      (set : BTreeSet K) → tube' ≡ tube → same-sets ≡ sets
      → get name_cmp sets' t ≡ cond (is_at (name_cmp tube') t) (Some set) (get name_cmp same-sets t)
      → None ≡ get name_cmp sets tube → contains cmp (tube_set t sets) k ≡ true
      → contains cmp (tube_set t sets') k ≡ true
  set-new tube tube' t k sets sets' same-sets set copied same updates none h =
      set-kept tube t k sets sets' (Some set)
      (updates ∙ ap₂ (λ n m. cond (is_at (name_cmp n) t) (Some set) (get name_cmp m t)) copied same)
      (λ _ old. absurd (true≢false (sym (subst (λ s. contains cmp s k ≡ true) (no-set tube sets (sym none)) old)))) h

  -- nothing is in an empty set
  pub empty-set : (k : K) (set : BTreeSet K) → set.keys ≡ [] → contains cmp set k ≡ true → contains cmp (record { keys = [] }) k ≡ true
  empty-set k set none h = subst (λ ks. list_any (is_at (cmp k)) ks ≡ true) none h

  -- a key stays in a set to which one is added
  pub stays : (k p : K) (set set' : BTreeSet K) → contains cmp set' p ≡ cond (is_at (cmp k) p) true (contains cmp set p)
      → contains cmp set p ≡ true → contains cmp set' p ≡ true
  stays k p set set' e h = e ∙ elim (is_at (cmp k) p) as (λ b. cond b true (contains cmp set p) ≡ true) [ true ↦ refl | false ↦ h ]

  -- and in a set from which another one is taken
  pub stays_but : ((x y : K) → is_at (cmp x) y ≡ true → x ≡ y) → (k p : K) (set set' : BTreeSet K)
      → contains cmp set' p ≡ cond (is_at (cmp k) p) false (contains cmp set p) → (k ≡ p → ⊥)
      → contains cmp set p ≡ true → contains cmp set' p ≡ true
  stays_but exact k p set set' e apart h =
      e ∙
      elim (is_at (cmp k) p) as (λ b. is_at (cmp k) p ≡ b
      → cond b false (contains cmp set p) ≡ true) [ true ↦ λ t. absurd (apart (exact k p t)) | false ↦ λ t. h ] refl
