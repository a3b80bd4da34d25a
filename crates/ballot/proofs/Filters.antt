-- What is left of a list where only what passes a test is kept.
use Rattle.std.proofs.Common.{◌≡◌, ◌⊎◌, inl, inr, Bool, true, false, true≢false, cond, List, [], ◌∷◌, filter, refl, sym, ap, ◌∙◌}
use Rattle.object.specs.Lists.{In}

module _ {X : Type 0} (p : X → Bool) where
  In_step : (x y : X) (xs ys : List X) (b : Bool) → p y ≡ b → (In x ys → In x xs × (p x ≡ true)) → In x (cond b (y ∷ ys) ys) → In x (y ∷ xs) × (p x ≡ true)
  In_step x y xs ys true e rest (inl same) = (inl same, ap p same ∙ e)
  In_step x y xs ys true e rest (inr i) = let r = rest i in (inr r.0, r.1)
  In_step x y xs ys false e rest i = let r = rest i in (inr r.0, r.1)

  -- what is left of a list is what passes the test
  pub In_filter : (x : X) (xs : List X) → In x (filter p xs) → In x xs × (p x ≡ true)
  In_filter x [] i = absurd i
  In_filter x (y ∷ xs) i = In_step x y xs (filter p xs) (p y) refl (In_filter x xs) i

  put_step : (x y : X) (ys : List X) (b : Bool) → p y ≡ b → p x ≡ true → (x ≡ y) ⊎ In x ys → In x (cond b (y ∷ ys) ys)
  put_step x y ys true e h i = i
  put_step x y ys false e h (inl same) = absurd (true≢false (sym h ∙ ap p same ∙ e))
  put_step x y ys false e h (inr i) = i

  pub filter_In : (x : X) (xs : List X) → p x ≡ true → In x xs → In x (filter p xs)
  filter_In x [] h i = i
  filter_In x (y ∷ xs) h (inl same) = put_step x y (filter p xs) (p y) refl h (inl same)
  filter_In x (y ∷ xs) h (inr i) = put_step x y (filter p xs) (p y) refl h (inr (filter_In x xs h i))

  -- where all pass, or none does
  pub filter_all : (xs : List X) → ((x : X) → In x xs → p x ≡ true) → filter p xs ≡ xs
  filter_all [] h = refl
  filter_all (x ∷ xs) h = ap (λ b. cond b (x ∷ filter p xs) (filter p xs)) (h x (inl refl)) ∙ ap (λ ys. x ∷ ys) (filter_all xs (λ y i. h y (inr i)))

  pub filter_none : (xs : List X) → ((x : X) → In x xs → p x ≡ false) → filter p xs ≡ []
  filter_none [] h = refl
  filter_none (x ∷ xs) h = ap (λ b. cond b (x ∷ filter p xs) (filter p xs)) (h x (inl refl)) ∙ filter_none xs (λ y i. h y (inr i))
