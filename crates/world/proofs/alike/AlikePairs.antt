-- Lists that are alike place by place.
use Rattle.std.proofs.Common.{◌≡◌, inl, inr, ℕ, zero, suc, List, [], ◌∷◌, ◌++◌, length, Some, refl, sym, ap, subst}
use Rattle.std.specs.Prelude.{slice_get, slice_index_or, slice_set}
use Rattle.object.specs.Lists.{In}
use Rattle.world.specs.Alike.{InPairs}
use Rattle.agreement.proofs.chosen.LeaderRows.{some_same}

module _ {A : Type 0} (R : A → A → Type 0) where
  pub InPairs-itself : ((x : A) → R x x) → (xs : List A) → InPairs R xs xs
  InPairs-itself r [] = tt
  InPairs-itself r (x ∷ xs) = (r x, InPairs-itself r xs)

  pub InPairs-append : (xs ys zs ws : List A) → InPairs R xs ys → InPairs R zs ws → InPairs R (xs ++ zs) (ys ++ ws)
  InPairs-append [] [] zs ws a b = b
  InPairs-append [] (y ∷ ys) zs ws a b = absurd a
  InPairs-append (x ∷ xs) [] zs ws a b = absurd a
  InPairs-append (x ∷ xs) (y ∷ ys) zs ws a b = (a.0, InPairs-append xs ys zs ws a.1 b)

  pub InPairs-length : (xs ys : List A) → InPairs R xs ys → length xs ≡ length ys
  InPairs-length [] [] a = refl
  InPairs-length [] (y ∷ ys) a = absurd a
  InPairs-length (x ∷ xs) [] a = absurd a
  InPairs-length (x ∷ xs) (y ∷ ys) a = ap suc (InPairs-length xs ys a.1)

  pub InPairs-get : (xs ys : List A) (i : ℕ) (x y : A) → InPairs R xs ys → slice_get xs i ≡ Some x → slice_get ys i ≡ Some y → R x y
  InPairs-get [] ys i x y a e f = absurd (cc)
  InPairs-get (z ∷ xs) [] i x y a e f = absurd a
  InPairs-get (z ∷ xs) (w ∷ ys) zero x y a e f = subst (R x) (some_same f) (subst (λ (q : A). R q w) (some_same e) a.0)
  InPairs-get (z ∷ xs) (w ∷ ys) (suc i) x y a e f = InPairs-get xs ys i x y a.1 e f

  pub InPairs-index : (xs ys : List A) (i : ℕ) (x y : A) → InPairs R xs ys → R x y → R (slice_index_or xs i x) (slice_index_or ys i y)
  InPairs-index [] [] i x y a r = r
  InPairs-index [] (w ∷ ys) i x y a r = absurd a
  InPairs-index (z ∷ xs) [] i x y a r = absurd a
  InPairs-index (z ∷ xs) (w ∷ ys) zero x y a r = a.0
  InPairs-index (z ∷ xs) (w ∷ ys) (suc i) x y a r = InPairs-index xs ys i x y a.1 r

  pub InPairs-set : (xs ys : List A) (i : ℕ) (x y : A) → InPairs R xs ys → R x y → InPairs R (slice_set xs i x) (slice_set ys i y)
  InPairs-set [] [] i x y a r = a
  InPairs-set [] (w ∷ ys) i x y a r = absurd a
  InPairs-set (z ∷ xs) [] i x y a r = absurd a
  InPairs-set (z ∷ xs) (w ∷ ys) zero x y a r = (r, a.1)
  InPairs-set (z ∷ xs) (w ∷ ys) (suc i) x y a r = (a.0, InPairs-set xs ys i x y a.1 r)

  -- the element that stands at the place of this one
  pub InPairs-first : (xs ys : List A) (y : A) → InPairs R xs ys → In y ys → (x : A) × In x xs × R x y
  InPairs-first [] [] y a i = absurd i
  InPairs-first [] (w ∷ ys) y a i = absurd a
  InPairs-first (z ∷ xs) [] y a i = absurd i
  InPairs-first (z ∷ xs) (w ∷ ys) y a (inl e) = (z, inl refl, subst (R z) (sym e) a.0)
  InPairs-first (z ∷ xs) (w ∷ ys) y a (inr i) = let h = InPairs-first xs ys y a.1 i in (h.0, inr h.1, h.2)
