-- The first items of lists.
use Rattle.std.proofs.Common.{◌≡◌, Bool, true, false, not, cond, ◌||◌, List, [], ◌∷◌, ◌++◌, filter, refl, sym, ap, ◌∙◌}
use Rattle.std.proofs.lemmas.Bool.{false≢true, false_from_ne_true}
use Rattle.std.proofs.lemmas.List.Elements.{filter-append}
use Rattle.object.specs.declared.command.Key.{Key}
use Rattle.object.specs.Keys.{same_key, stands, KeysOnce}
use Rattle.recorder.specs.Firsts.{others, firsts, CutsBefore}
use Rattle.object.specs.KeyLaws.{same_is, same_turned}
use Rattle.recorder.proofs.Onces.{first_lacks, once_first}

module _ {X : Type 0} where
  -- two filters in either order
  filters : (p r : X → Bool) (xs : List X) → filter p (filter r xs) ≡ filter r (filter p xs)
  filters p r [] = refl
  filters p r (x ∷ xs) =
      elim (r x) as (λ b. r x ≡ b → filter p (cond b (x ∷ filter r xs) (filter r xs)) ≡ filter r (cond (p x) (x ∷ filter p xs) (filter p xs))) [
        | true ↦ λ h. elim (p x) as (λ c. cond c (x ∷ filter p (filter r xs)) (filter p (filter r xs)) ≡ filter r (cond c (x ∷ filter p xs) (filter p xs))) [
          | true ↦ ap (λ ys. x ∷ ys) (filters p r xs) ∙ sym (ap (λ b. cond b (x ∷ filter r (filter p xs)) (filter r (filter p xs))) h)
          | false ↦ filters p r xs
        ]
        | false ↦ λ h. elim (p x) as (λ c. filter p (filter r xs) ≡ filter r (cond c (x ∷ filter p xs) (filter p xs))) [
          | true ↦ filters p r xs ∙ sym (ap (λ b. cond b (x ∷ filter r (filter p xs)) (filter r (filter p xs))) h)
          | false ↦ filters p r xs
        ]
      ] refl

  -- a filter that the other one implies
  filters_within : (p r : X → Bool) → ((x : X) → p x ≡ true → r x ≡ true) → (xs : List X) → filter p (filter r xs) ≡ filter p xs
  filters_within p r implies [] = refl
  filters_within p r implies (x ∷ xs) =
      elim (r x) as (λ b. r x ≡ b → filter p (cond b (x ∷ filter r xs) (filter r xs)) ≡ cond (p x) (x ∷ filter p xs) (filter p xs)) [
        | true ↦ λ h. ap (λ ys. cond (p x) (x ∷ ys) ys) (filters_within p r implies xs)
        | false ↦ λ h. filters_within p r implies xs ∙ sym
            (ap (λ b. cond b (x ∷ filter p xs) (filter p xs))
            (false_from_ne_true (p x) (λ g. false≢true (sym h ∙ implies x g))))
      ] refl

module _ {X : Type 0} (key_of : X → Key) where
  -- the firsts of the items whose keys pass a test
  filter_firsts : (p : Key → Bool) (xs : List X) → filter (λ x. p (key_of x)) (firsts key_of xs) ≡ firsts key_of (filter (λ x. p (key_of x)) xs)
  filter_firsts p [] = refl
  filter_firsts p (x ∷ xs) =
      elim (p (key_of x)) as (λ b. p (key_of x) ≡ b →
      cond b (x ∷ filter (λ y. p (key_of y)) (others key_of (key_of x) (firsts key_of xs)))
      (filter (λ y. p (key_of y)) (others key_of (key_of x) (firsts key_of xs)))
      ≡ firsts key_of (cond b (x ∷ filter (λ y. p (key_of y)) xs) (filter (λ y. p (key_of y)) xs))) [
        | true ↦ λ h. ap (λ ys. x ∷ ys)
            (filters (λ y. p (key_of y)) (λ y. not (same_key (key_of y) (key_of x))) (firsts key_of xs) ∙ ap
            (others key_of (key_of x)) (filter_firsts p xs))
        | false ↦ λ h.
            filters_within (λ y. p (key_of y)) (λ y. not (same_key (key_of y) (key_of x)))
            (λ y g. ap not (false_from_ne_true (same_key (key_of y) (key_of x))
            (λ s. false≢true (sym h ∙ ap p (sym (same_is (key_of y) (key_of x) s)) ∙ g)))) (firsts key_of xs)
            ∙ filter_firsts p xs
      ] refl

  others_again : (k : Key) (xs : List X) → others key_of k (others key_of k xs) ≡ others key_of k xs
  others_again k xs = filters_within (λ x. not (same_key (key_of x) k)) (λ x. not (same_key (key_of x) k)) (λ x h. h) xs

  -- the law of firsts
  pub cuts_before : (xs ys : List X) → CutsBefore key_of xs ys
  cuts_before [] ys = refl
  cuts_before (x ∷ xs) ys =
      let k = key_of x in
      ap (λ zs. x ∷ zs) (
      ap (others key_of k) (cuts_before xs ys)
      ∙ filter_firsts (λ q. not (same_key q k)) (firsts key_of xs ++ ys)
      ∙ ap (firsts key_of) (filter-append (λ z. not (same_key (key_of z) k)) (firsts key_of xs) ys
      ∙ ap (λ zs. zs ++ others key_of k ys) (sym (others_again k (firsts key_of xs)))
      ∙ sym (filter-append (λ z. not (same_key (key_of z) k)) (others key_of k (firsts key_of xs)) ys))
      ∙ sym (filter_firsts (λ q. not (same_key q k)) (others key_of k (firsts key_of xs) ++ ys)))

  -- what does not stand is not among the others left out
  others_all : (k : Key) (xs : List X) → stands key_of k xs ≡ false → others key_of k xs ≡ xs
  others_all k [] h = refl
  others_all k (x ∷ xs) h =
      elim (same_key (key_of x) k) as (λ b. (b || stands key_of k xs) ≡ false → cond (not b) (x ∷ others key_of k xs) (others key_of k xs) ≡ x ∷ xs) [
        | true ↦ λ t. absurd (false≢true (sym t))
        | false ↦ λ t. ap (λ zs. x ∷ zs) (others_all k xs t)
      ] h

  -- where no key stands twice, each item is a first
  pub firsts_all : (xs : List X) → KeysOnce key_of xs → firsts key_of xs ≡ xs
  firsts_all [] h = refl
  firsts_all (x ∷ xs) h = ap (λ zs. x ∷ zs) (ap (others key_of (key_of x)) (firsts_all xs h.1) ∙ others_all (key_of x) xs (first_lacks key_of x xs h))

  others_lack : (k : Key) (xs : List X) → stands key_of k (others key_of k xs) ≡ false
  others_lack k [] = refl
  others_lack k (x ∷ xs) =
      elim (same_key (key_of x) k) as (λ b. same_key (key_of x) k ≡ b → stands key_of k (cond (not b) (x ∷ others key_of k xs) (others key_of k xs)) ≡ false) [
        | true ↦ λ h. others_lack k xs
        | false ↦ λ h. ap (λ b. b || stands key_of k (others key_of k xs)) h ∙ others_lack k xs
      ] refl

  filter_lacks : (p : X → Bool) (k : Key) (xs : List X) → stands key_of k xs ≡ false → stands key_of k (filter p xs) ≡ false
  filter_lacks p k [] h = refl
  filter_lacks p k (x ∷ xs) h =
      elim (p x) as (λ b. stands key_of k (cond b (x ∷ filter p xs) (filter p xs)) ≡ false) [
        | true ↦ elim (same_key (key_of x) k) as (λ b. (b || stands key_of k xs) ≡ false → (b || stands key_of k (filter p xs)) ≡ false) [
          | true ↦ λ t. t
          | false ↦ λ t. filter_lacks p k xs t
        ] h
        | false ↦ elim (same_key (key_of x) k) as (λ b. (b || stands key_of k xs) ≡ false → stands key_of k (filter p xs) ≡ false) [
          | true ↦ λ t. absurd (false≢true (sym t))
          | false ↦ λ t. filter_lacks p k xs t
        ] h
      ]

  filter_once : (p : X → Bool) (xs : List X) → KeysOnce key_of xs → KeysOnce key_of (filter p xs)
  filter_once p [] h = tt
  filter_once p (x ∷ xs) h =
      elim (p x) as (λ b. KeysOnce key_of (cond b (x ∷ filter p xs) (filter p xs))) [
        | true ↦ once_first key_of x (filter p xs) (filter_lacks p (key_of x) xs (first_lacks key_of x xs h)) (filter_once p xs h.1)
        | false ↦ filter_once p xs h.1
      ]

  -- among the firsts no key stands twice
  pub firsts_once : (xs : List X) → KeysOnce key_of (firsts key_of xs)
  firsts_once [] = tt
  firsts_once (x ∷ xs) =
      once_first key_of x (others key_of (key_of x) (firsts key_of xs)) (others_lack (key_of x) (firsts key_of xs))
      (filter_once (λ y. not (same_key (key_of y) (key_of x))) (firsts key_of xs) (firsts_once xs))

  -- the others of one item or of none
  other_last : (k : Key) (y : X) (b : Bool) → others key_of k (cond b [] (y ∷ [])) ≡ cond (same_key k (key_of y) || b) [] (y ∷ [])
  other_last k y true = elim (same_key k (key_of y)) as (λ c. [] ≡ cond (c || true) [] (y ∷ [])) [ true ↦ refl | false ↦ refl ]
  other_last k y false =
      ap (λ c. cond (not c) (y ∷ []) []) (same_turned (key_of y) k)
      ∙ elim (same_key k (key_of y)) as (λ c. cond (not c) (y ∷ []) [] ≡ cond (c || false) [] (y ∷ [])) [ true ↦ refl | false ↦ refl ]

  -- one more item is a first where its key did not stand
  pub firsts_more : (xs : List X) (y : X) → firsts key_of (xs ++ y ∷ []) ≡ firsts key_of xs ++ cond (stands key_of (key_of y) xs) [] (y ∷ [])
  firsts_more [] y = refl
  firsts_more (x ∷ xs) y =
      ap (λ zs. x ∷ zs) (
      ap (others key_of (key_of x)) (firsts_more xs y)
      ∙ filter-append (λ z. not (same_key (key_of z) (key_of x))) (firsts key_of xs) (cond (stands key_of (key_of y) xs) [] (y ∷ []))
      ∙ ap (λ zs. others key_of (key_of x) (firsts key_of xs) ++ zs) (other_last (key_of x) y (stands key_of (key_of y) xs)))

  -- and a key stands among the firsts where it stands in the list
  others_keep : (k q : Key) (xs : List X) → same_key k q ≡ false → stands key_of q (others key_of k xs) ≡ stands key_of q xs
  others_keep k q [] h = refl
  others_keep k q (x ∷ xs) h =
      elim (same_key (key_of x) k) as (λ b. same_key (key_of x) k ≡ b
      → stands key_of q (cond (not b) (x ∷ others key_of k xs) (others key_of k xs))
      ≡ (same_key (key_of x) q || stands key_of q xs)) [
        | true ↦ λ t. others_keep k q xs h ∙ ap (λ b. b || stands key_of q xs) (sym (ap (λ j. same_key j q) (same_is (key_of x) k t) ∙ h))
        | false ↦ λ t. ap (λ b. same_key (key_of x) q || b) (others_keep k q xs h)
      ] refl

  pub stands_first : (q : Key) (xs : List X) → stands key_of q (firsts key_of xs) ≡ stands key_of q xs
  stands_first q [] = refl
  stands_first q (x ∷ xs) =
      elim (same_key (key_of x) q) as (λ b. same_key (key_of x) q ≡ b
      → (b || stands key_of q (others key_of (key_of x) (firsts key_of xs))) ≡ (b || stands key_of q xs)) [
        | true ↦ λ h. refl
        | false ↦ λ h. others_keep (key_of x) q (firsts key_of xs) h ∙ stands_first q xs
      ] refl
