-- Where the keys of a list stand.
use Rattle.std.proofs.Common.{◌≡◌, ℕ, suc, Bool, true, false, cond, ◌||◌, List, [], ◌∷◌, ◌++◌, length, Option, None, Some, refl, sym, ap, ◌∙◌}
use Rattle.std.proofs.lemmas.Bool.{false≢true}
use Rattle.std.proofs.lemmas.List.Folds.{list_any-append}
use Rattle.std.specs.List.{slice_get}
use Rattle.std.specs.Option.{is_some, option_map, option_and_then}
use Rattle.object.specs.declared.command.Key.{Key}
use Rattle.object.specs.Keys.{same_key, stands, found, place_of, KeysOnce}
use Rattle.object.specs.KeyLaws.{same_is, same_turned, same_when}
use Rattle.recorder.proofs.Onces.{fst_false, snd_false, first_lacks, once_first}

or_falses : (a b : Bool) → a ≡ false → b ≡ false → (a || b) ≡ false
or_falses a b h g = ap (λ c. c || b) h ∙ g

pub or_nil : (b : Bool) → (b || false) ≡ b
or_nil true = refl
or_nil false = refl

later : (b : Bool) (n : ℕ) (o : Option ℕ) → option_map suc (cond b (Some n) o) ≡ cond b (Some (suc n)) (option_map suc o)
later true n o = refl
later false n o = refl

suc_some : (o : Option ℕ) → is_some (option_map suc o) ≡ is_some o
suc_some None = refl
suc_some (Some n) = refl

module _ {X : Type 0} (key_of : X → Key) where
  -- a key stands where it has a place
  pub stands_at : (k : Key) (xs : List X) → is_some (place_of key_of k xs) ≡ stands key_of k xs
  stands_at k [] = refl
  stands_at k (x ∷ xs) =
      elim (same_key (key_of x) k) as (λ b. is_some (cond b (Some 0) (option_map suc (place_of key_of k xs))) ≡ (b || stands key_of k xs)) [
        | true ↦ refl
        | false ↦ suc_some (place_of key_of k xs) ∙ stands_at k xs
      ]

  next_get : (x : X) (xs : List X) (o : Option ℕ) → option_and_then (slice_get xs) o ≡ option_and_then (slice_get (x ∷ xs)) (option_map suc o)
  next_get x xs None = refl
  next_get x xs (Some n) = refl

  -- what stands at its place is what is found
  pub found_at : (k : Key) (xs : List X) → found key_of k xs ≡ option_and_then (slice_get xs) (place_of key_of k xs)
  found_at k [] = refl
  found_at k (x ∷ xs) =
      elim (same_key (key_of x) k) as (λ b. cond b (Some x) (found key_of k xs)
      ≡ option_and_then (slice_get (x ∷ xs)) (cond b (Some 0) (option_map suc (place_of key_of k xs)))) [
        | true ↦ refl
        | false ↦ found_at k xs ∙ next_get x xs (place_of key_of k xs)
      ]

  -- an item of a new key at the end
  pub place_more : (y : X) (q : Key) (xs : List X) → stands key_of (key_of y) xs ≡ false
      → place_of key_of q (xs ++ y ∷ []) ≡ cond (same_key (key_of y) q) (Some (length xs)) (place_of key_of q xs)
  place_more y q [] new = refl
  place_more y q (x ∷ xs) new =
      ap (λ o. cond (same_key (key_of x) q) (Some 0) (option_map suc o))
      (place_more y q xs (snd_false (same_key (key_of x) (key_of y)) (stands key_of (key_of y) xs) new))
      ∙ elim (same_key (key_of x) q) as (λ b. same_key (key_of x) q ≡ b →
      cond b (Some 0) (option_map suc (cond (same_key (key_of y) q) (Some (length xs)) (place_of key_of q xs)))
      ≡ cond (same_key (key_of y) q) (Some (suc (length xs)))
      (cond b (Some 0) (option_map suc (place_of key_of q xs)))) [
        | true ↦ λ h. elim (same_key (key_of y) q) as (λ c. same_key (key_of y) q ≡ c → Some 0 ≡ cond c (Some (suc (length xs))) (Some 0)) [
          | true ↦ λ g. absurd (false≢true
              (sym (fst_false (same_key (key_of x) (key_of y)) (stands key_of (key_of y) xs) new) ∙ same_when (key_of x)
              (key_of y) (same_is (key_of x) q h ∙ sym (same_is (key_of y) q g))))
          | false ↦ λ g. refl
        ] refl
        | false ↦ λ h. later (same_key (key_of y) q) (length xs) (place_of key_of q xs)
      ] refl

  -- and without it
  pub place_none : (q : Key) (xs : List X) → stands key_of q xs ≡ false → place_of key_of q xs ≡ None
  place_none q [] h = refl
  place_none q (x ∷ xs) h =
      elim (same_key (key_of x) q) as (λ b. (b || stands key_of q xs) ≡ false → cond b (Some 0) (option_map suc (place_of key_of q xs)) ≡ None) [
        | true ↦ λ t. absurd (false≢true (sym t))
        | false ↦ λ t. ap (option_map suc) (place_none q xs t)
      ] h

  pub place_less : (y : X) (q : Key) (xs : List X) → stands key_of (key_of y) xs ≡ false
      → cond (same_key (key_of y) q) None (place_of key_of q (xs ++ y ∷ [])) ≡ place_of key_of q xs
  place_less y q xs new =
      ap (cond (same_key (key_of y) q) None) (place_more y q xs new)
      ∙ elim (same_key (key_of y) q) as (λ b. same_key (key_of y) q ≡ b
      → cond b None (cond b (Some (length xs)) (place_of key_of q xs)) ≡ place_of key_of q xs) [
        | true ↦ λ h. sym (place_none q xs (ap (λ k. stands key_of k xs) (sym (same_is (key_of y) q h)) ∙ new))
        | false ↦ λ h. refl
      ] refl

  -- whether a key stands in one more item
  pub stands_more : (k : Key) (xs : List X) (y : X) → stands key_of k (xs ++ y ∷ []) ≡ (stands key_of k xs || same_key (key_of y) k)
  stands_more k xs y = list_any-append (λ x. same_key (key_of x) k) xs (y ∷ []) ∙ ap (λ b. stands key_of k xs || b) (or_nil (same_key (key_of y) k))

  -- no key stands twice with an item of a new key
  pub once_more : (xs : List X) (y : X) → KeysOnce key_of xs → stands key_of (key_of y) xs ≡ false → KeysOnce key_of (xs ++ y ∷ [])
  once_more [] y once new = once_first key_of y [] refl tt
  once_more (x ∷ xs) y once new =
      once_first key_of x (xs ++ y ∷ [])
      (stands_more (key_of x) xs y
      ∙ or_falses (stands key_of (key_of x) xs) (same_key (key_of y) (key_of x)) (first_lacks key_of x xs once)
      (same_turned (key_of y) (key_of x) ∙ fst_false (same_key (key_of x) (key_of y))
      (stands key_of (key_of y) xs) new))
      (once_more xs y once.1 (snd_false (same_key (key_of x) (key_of y)) (stands key_of (key_of y) xs) new))

  -- nor without the last item, whose key doesn't stand before it
  pub once_less : (xs : List X) (y : X) → KeysOnce key_of (xs ++ y ∷ []) → KeysOnce key_of xs × (stands key_of (key_of y) xs ≡ false)
  once_less [] y once = (tt, refl)
  once_less (x ∷ xs) y once =
      let inner = once_less xs y once.1 in
      let none = sym (stands_more (key_of x) xs y) ∙ first_lacks key_of x (xs ++ y ∷ []) once in (
        once_first key_of x xs (fst_false (stands key_of (key_of x) xs) (same_key (key_of y) (key_of x)) none) inner.0,
        or_falses (same_key (key_of x) (key_of y)) (stands key_of (key_of y) xs)
            (same_turned (key_of x) (key_of y) ∙ snd_false (stands key_of (key_of x) xs) (same_key (key_of y) (key_of x)) none) inner.1,
      )
