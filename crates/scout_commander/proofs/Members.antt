-- Elements of lists.
use Rattle.std.proofs.Common.{◌≡◌, ◌⊎◌, inl, inr, ⊎_elim, ℕ, zero, suc, Bool, true, false, List, [], ◌∷◌, ◌++◌, take, refl, sym, ap, subst, ◌∙◌}
use Rattle.std.specs.Prelude.{◌||◌}
use Rattle.std.specs.List.{list_any}
use Rattle.object.specs.Lists.{In}

pub in_cases : {A : Type 0} (x : A) (xs ys : List A) → In x (xs ++ ys) → In x xs ⊎ In x ys
in_cases x [] ys i = inr i
in_cases x (z ∷ zs) ys (inl e) = inl (inl e)
in_cases x (z ∷ zs) ys (inr i) = ⊎_elim (λ (j : In x zs). inl (inr j)) (λ (j : In x ys). inr j) (in_cases x zs ys i)

pub in_left : {A : Type 0} (x : A) (xs ys : List A) → In x xs → In x (xs ++ ys)
in_left x [] ys i = absurd i
in_left x (z ∷ zs) ys (inl e) = inl e
in_left x (z ∷ zs) ys (inr i) = inr (in_left x zs ys i)

pub in_right : {A : Type 0} (x : A) (xs ys : List A) → In x ys → In x (xs ++ ys)
in_right x [] ys i = i
in_right x (z ∷ zs) ys i = inr (in_right x zs ys i)

pub only_one : {A : Type 0} (x y : A) → In x (y ∷ []) → x ≡ y
only_one x y (inl e) = e
only_one x y (inr i) = absurd i

-- an element of the first n is one
pub in_take : {A : Type 0} (n : ℕ) (x : A) (xs : List A) → In x (take n xs) → In x xs
in_take zero x xs i = absurd i
in_take (suc n) x [] i = i
in_take (suc n) x (y ∷ ys) (inl e) = inl e
in_take (suc n) x (y ∷ ys) (inr i) = inr (in_take n x ys i)

-- and so is one of the first n of the first k
pub in_take_take : {A : Type 0} (n k : ℕ) (x : A) (xs : List A) → In x (take n (take k xs)) → In x (take n xs)
in_take_take zero k x xs i = i
in_take_take (suc n) zero x xs i = absurd i
in_take_take (suc n) (suc k) x [] i = i
in_take_take (suc n) (suc k) x (y ∷ ys) (inl e) = inl e
in_take_take (suc n) (suc k) x (y ∷ ys) (inr i) = inr (in_take_take n k x ys i)

or_true : (b : Bool) → (b || true) ≡ true
or_true true = refl
or_true false = refl

-- a test that tells elements apart finds what is there
pub found : {A : Type 0} (same : A → A → Bool) → ((x y : A) → same x y ≡ true → x ≡ y) → ((x : A) → same x x ≡ true)
    → (x : A) (ys : List A) → (list_any (λ y. same y x) ys ≡ true → In x ys)
    × (In x ys → list_any (λ y. same y x) ys ≡ true)
found same exact itself x [] = (λ h. absurd (cc), λ i. absurd i)
found {A} same exact itself x (y ∷ ys) =
    let more = found same exact itself x ys in
    (there (same y x) refl (list_any (λ z. same z x) ys) more.0, back more.1)
  where
    there : (b : Bool) → same y x ≡ b → (c : Bool) → (c ≡ true → In x ys) → (b || c) ≡ true → In x (y ∷ ys)
    there true e c later h = inl (sym (exact y x e))
    there false e c later h = inr (later h)

    back : (In x ys → list_any (λ z. same z x) ys ≡ true) → In x (y ∷ ys) → (same y x || list_any (λ z. same z x) ys) ≡ true
    back later (inl e) = ap (λ b. b || list_any (λ z. same z x) ys) (subst (λ z. same z x ≡ true) e (itself x))
    back later (inr i) = ap (λ c. same y x || c) (later i) ∙ or_true (same y x)
