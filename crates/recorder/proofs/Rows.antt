-- A list that has a value for the key of each item of another list, in the same order.
use Rattle.std.proofs.Common.{◌≡◌, ◌<◌, ℕ, suc, true, false, cond, List, [], ◌∷◌, map, set, get_or, length, Option, None, Some, refl, sym, ap, ap₂, ◌∙◌, arith}
use Rattle.std.specs.Option.{option_map}
use Rattle.object.specs.Keys.{same_key, stands, place_of, KeysOnce}
use Rattle.object.specs.declared.command.Key.{Key}
use Rattle.object.specs.KeyLaws.{same_is, same_turned}
use Rattle.recorder.proofs.Onces.{fst_false, snd_false, first_lacks}

-- a place after the first
later_some : (o : Option ℕ) (i : ℕ) → option_map suc o ≡ Some i → (j : ℕ) × (o ≡ Some j) × (suc j ≡ i)
later_some None i h = cc
later_some (Some n) i h = (n, refl, cc)

module _ {X : Type 0} (key_of : X → Key) where
  -- the place of a key is within the list
  pub place_within : (k : Key) (xs : List X) (i : ℕ) → place_of key_of k xs ≡ Some i → i < length xs
  place_within k [] i h = cc
  place_within k (x ∷ xs) i h =
      elim (same_key (key_of x) k) as (λ b. cond b (Some 0) (option_map suc (place_of key_of k xs)) ≡ Some i → i < length (x ∷ xs)) [
        | true ↦ λ p. let first : 0 ≡ i = cc in omega arith
        | false ↦ λ p.
            let there = later_some (place_of key_of k xs) i p in
            let inside = place_within k xs there.0 there.1 in
            let next = there.2 in omega arith
      ] h

module _ {X V : Type 0} (key_of : X → Key) where
  -- values that differ at a key alone that does not stand
  same_row : (F G : Key → V) (k : Key) (xs : List X) → stands key_of k xs ≡ false → ((q : Key) → same_key k q ≡ false → F q ≡ G q) →
      map (λ x. F (key_of x)) xs ≡ map (λ x. G (key_of x)) xs
  same_row F G k [] none agree = refl
  same_row F G k (x ∷ xs) none agree =
      ap₂ (λ v vs. v ∷ vs) (agree (key_of x) (same_turned k (key_of x) ∙ fst_false (same_key (key_of x) k) (stands key_of k xs) none))
      (same_row F G k xs (snd_false (same_key (key_of x) k) (stands key_of k xs) none) agree)

  -- the value at a key's place
  pub row_at : (F : Key → V) (k : Key) (xs : List X) (i : ℕ) (d : V) → place_of key_of k xs ≡ Some i → get_or (map (λ x. F (key_of x)) xs) i d ≡ F k
  row_at F k [] i d h = cc
  row_at F k (x ∷ xs) i d h =
      elim (same_key (key_of x) k) as (λ b. same_key (key_of x) k ≡ b
      → cond b (Some 0) (option_map suc (place_of key_of k xs)) ≡ Some i
      → get_or (map (λ y. F (key_of y)) (x ∷ xs)) i d ≡ F k) [
        | true ↦ λ e p. let first : 0 ≡ i = cc in ap (λ n. get_or (map (λ y. F (key_of y)) (x ∷ xs)) n d) (sym first) ∙ ap F (same_is (key_of x) k e)
        | false ↦ λ e p.
            let there = later_some (place_of key_of k xs) i p in
            ap (λ n. get_or (map (λ y. F (key_of y)) (x ∷ xs)) n d) (sym there.2) ∙ row_at F k xs there.0 d there.1
      ] refl h

  -- another value at a key's place
  pub row_set : (F G : Key → V) (k : Key) (xs : List X) (i : ℕ) → KeysOnce key_of xs → place_of key_of k xs ≡ Some i
      → ((q : Key) → same_key k q ≡ false → F q ≡ G q) →
      set (map (λ x. F (key_of x)) xs) i (G k) ≡ map (λ x. G (key_of x)) xs
  row_set F G k [] i once h agree = cc
  row_set F G k (x ∷ xs) i once h agree =
      elim (same_key (key_of x) k) as (λ b. same_key (key_of x) k ≡ b
      → cond b (Some 0) (option_map suc (place_of key_of k xs)) ≡ Some i
      → set (map (λ y. F (key_of y)) (x ∷ xs)) i (G k) ≡ map (λ y. G (key_of y)) (x ∷ xs)) [
        | true ↦ λ e p.
            let first : 0 ≡ i = cc in
            let same = same_is (key_of x) k e in
            ap (λ n. set (map (λ y. F (key_of y)) (x ∷ xs)) n (G k)) (sym first)
            ∙ ap₂ (λ v vs. v ∷ vs) (ap G (sym same)) (same_row F G k xs (ap (λ q. stands key_of q xs) (sym same) ∙ first_lacks key_of x xs once) agree)
        | false ↦ λ e p.
            let there = later_some (place_of key_of k xs) i p in
            ap (λ n. set (map (λ y. F (key_of y)) (x ∷ xs)) n (G k)) (sym there.2)
            ∙ ap₂ (λ v vs. v ∷ vs) (agree (key_of x) (same_turned k (key_of x) ∙ e)) (row_set F G k xs there.0 once.1 there.1 agree)
      ] refl h
