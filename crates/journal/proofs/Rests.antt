-- What is left of a list behind a place.
use Rattle.std.proofs.Common.{◌≡◌, ◌≤◌, ℕ, zero, suc, List, [], ◌∷◌, length, drop, arith, IsTrue}
use Rattle.std.proofs.lemmas.List.{drop_all}
use Rattle.std.proofs.lemmas.Bool.Decides.{nat_tests}
use lib.Dec.{leb}

pub rest_none : {X : Type 0} (xs : List X) (n : ℕ) → length xs ≤ n → drop n xs ≡ []
rest_none xs n past = drop_all n xs past

pub none_rest : {X : Type 0} (xs : List X) (n : ℕ) → drop n xs ≡ [] → length xs ≤ n
none_rest [] n none = omega arith
none_rest (x ∷ xs) zero none = absurd (cc)
none_rest (x ∷ xs) (suc n) none = let r = none_rest xs n none in omega arith

pub le_true : (a b : ℕ) → IsTrue (leb a b) → a ≤ b
le_true a b is = grind (arith, nat_tests, is)

pub true_le : (a b : ℕ) → a ≤ b → IsTrue (leb a b)
true_le a b is = grind (arith, nat_tests, is)
