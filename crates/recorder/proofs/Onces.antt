-- Lists in which no key stands twice.
use Rattle.std.proofs.Common.{◌≡◌, ◌≢◌, Bool, true, false, ◌||◌, List, [], ◌∷◌, inl, inr, refl, sym, ap, ◌∙◌}
use Rattle.std.proofs.lemmas.Bool.{false≢true, false_from_ne_true}
use Rattle.object.specs.Lists.{In}
use Rattle.object.specs.Keys.{same_key, stands, KeysOnce}
use Rattle.object.specs.declared.command.Key.{Key}
use Rattle.object.specs.KeyLaws.{same_is, same_when}

pub fst_false : (a b : Bool) → (a || b) ≡ false → a ≡ false
fst_false true b h = cc
fst_false false b h = refl

pub snd_false : (a b : Bool) → (a || b) ≡ false → b ≡ false
snd_false true b h = cc
snd_false false b h = h

module _ {X : Type 0} (key_of : X → Key) where
  -- an item's own key stands
  pub in_stands : (y : X) (xs : List X) → In y xs → stands key_of (key_of y) xs ≡ true
  in_stands y [] i = absurd i
  in_stands y (x ∷ xs) (inl e) = ap (λ b. b || stands key_of (key_of y) xs) (same_when (key_of x) (key_of y) (ap key_of (sym e)))
  in_stands y (x ∷ xs) (inr i) =
      elim (same_key (key_of x) (key_of y)) as (λ b. (b || stands key_of (key_of y) xs) ≡ true) [ true ↦ refl | false ↦ in_stands y xs i ]

  -- a key does not stand where no item has it
  pub lacks : (k : Key) (xs : List X) → ((y : X) → In y xs → key_of y ≢ k) → stands key_of k xs ≡ false
  lacks k [] none = refl
  lacks k (x ∷ xs) none =
      ap (λ b. b || stands key_of k xs) (false_from_ne_true (same_key (key_of x) k) (λ t. none x (inl refl) (same_is (key_of x) k t)))
      ∙ lacks k xs (λ y i. none y (inr i))

  -- and where it does not stand no item has it
  pub lacked : (k : Key) (xs : List X) → stands key_of k xs ≡ false → (y : X) → In y xs → key_of y ≢ k
  lacked k xs none y i e = false≢true (sym none ∙ ap (λ q. stands key_of q xs) (sym e) ∙ in_stands y xs i)

  -- the first item's key does not stand after it
  pub first_lacks : (x : X) (xs : List X) → KeysOnce key_of (x ∷ xs) → stands key_of (key_of x) xs ≡ false
  first_lacks x xs once = lacks (key_of x) xs once.0

  -- an item of a new key before the others
  pub once_first : (x : X) (xs : List X) → stands key_of (key_of x) xs ≡ false → KeysOnce key_of xs → KeysOnce key_of (x ∷ xs)
  once_first x xs new once = (lacked (key_of x) xs new, once)
