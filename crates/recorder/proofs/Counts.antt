-- How many items there are, whose keys stand in another list.
use Rattle.std.proofs.Common.{◌≡◌, ◌≤◌, suc, true, false, ◌||◌, List, [], ◌∷◌, length, inl, inr, refl, sym, ap, ◌∙◌, arith}
use Rattle.std.proofs.lemmas.Bool.{false_from_ne_true}
use Rattle.object.specs.Lists.{In}
use Rattle.object.specs.Keys.{same_key, stands, KeysOnce}
use Rattle.object.specs.declared.command.Key.{Key}
use Rattle.object.specs.KeyLaws.{same_is}

module _ {X Y : Type 0} (key_x : X → Key) (key_y : Y → Key) where
  -- a list without the item of one key has all other keys
  without : (k : Key) (xs : List X) → stands key_x k xs ≡ true →
      (rest : List X) × (length xs ≡ suc (length rest)) × ((q : Key) → same_key k q ≡ false → stands key_x q xs ≡ true → stands key_x q rest ≡ true)
  without k [] h = cc
  without k (x ∷ xs) h =
      elim (same_key (key_x x) k) as (λ b. same_key (key_x x) k ≡ b → (b || stands key_x k xs) ≡ true →
      (rest : List X) × (suc (length xs) ≡ suc (length rest))
      × ((q : Key) → same_key k q ≡ false → (same_key (key_x x) q || stands key_x q xs) ≡ true
      → stands key_x q rest ≡ true)) [
        | true ↦ λ e t. (xs, refl, λ q other there. ap (λ b. b || stands key_x q xs) (sym (ap (λ j. same_key j q) (same_is (key_x x) k e) ∙ other)) ∙ there)
        | false ↦ λ e t.
            let inner = without k xs t in (
              x ∷ inner.0,
              ap suc inner.1,
              λ q other there. elim (same_key (key_x x) q) as (λ b. (b || stands key_x q xs) ≡ true → (b || stands key_x q inner.0) ≡ true) [
                | true ↦ λ s. refl
                | false ↦ λ s. inner.2 q other s
              ] there,
            )
      ] refl h

  -- items of different keys, each of which stands in the list, are no more than its items
  pub no_more : (ys : List Y) (xs : List X) → KeysOnce key_y ys → ((y : Y) → In y ys → stands key_x (key_y y) xs ≡ true) → length ys ≤ length xs
  no_more [] xs once known = omega arith
  no_more (y ∷ ys) xs once known =
      let left = without (key_y y) xs (known y (inl refl)) in
      let fewer : length ys ≤ length left.0 = no_more ys left.0 once.1
      (λ z i. left.2 (key_y z) (false_from_ne_true (same_key (key_y y) (key_y z)) (λ t. once.0 z i (sym (same_is (key_y y) (key_y z) t)))) (known z (inr i))) in
      let longer : length xs ≡ suc (length left.0) = left.1 in
      omega arith
