-- Lists whose elements are compared exactly.
use Rattle.std.proofs.Common.{◌≡◌, Bool, true, List, [], ◌∷◌, refl, ap₂}
use Rattle.std.proofs.lemmas.Bool.{and_parts}
use Rattle.std.specs.Cmp.Lexicographic.{pointwise}

pub pointwise_exact : {A : Type 0} {E : A → A → Bool} → ((a b : A) → E a b ≡ true → a ≡ b) → (xs ys : List A) → pointwise E xs ys ≡ true → xs ≡ ys
pointwise_exact exact [] [] h = refl
pointwise_exact exact [] (y ∷ ys) h = cc
pointwise_exact exact (x ∷ xs) [] h = cc
pointwise_exact {E = E} exact (x ∷ xs) (y ∷ ys) h =
    let both = and_parts (E x y) (pointwise E xs ys) h in ap₂ (λ z zs. z ∷ zs) (exact x y both.0) (pointwise_exact exact xs ys both.1)
