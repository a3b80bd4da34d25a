-- Lists of names are compared one by one.
use Rattle.std.proofs.Common.{◌≡◌, ℕ, Bool, true, List, [], ◌∷◌, refl, ap₂, bytes_eq}
use Rattle.std.proofs.lemmas.Bool.{and_parts}
use Rattle.std.proofs.lemmas.Cmp.{nat_list_eq_equiv}
use Rattle.std.proofs.lemmas.Slice.Eq.{bytes_eq-Decides}
use Rattle.std.specs.Cmp.{IsPartialEquivalence, IsEquivalence, partial_equiv_from_equiv}
use Rattle.std.specs.Cmp.Lexicographic.{pointwise, lists_equiv}

-- the same names in the same order
unfoldable pub same_names : List (List ℕ) → List (List ℕ) → Bool
same_names xs ys = pointwise bytes_eq xs ys

name_equiv : IsEquivalence bytes_eq
name_equiv = nat_list_eq_equiv

pub same_names-equiv : IsEquivalence same_names
unfolding same_names
same_names-equiv = lists_equiv name_equiv

pub same_names-per : IsPartialEquivalence same_names
same_names-per = partial_equiv_from_equiv same_names-equiv

exact : (xs ys : List (List ℕ)) → pointwise bytes_eq xs ys ≡ true → xs ≡ ys
exact [] [] h = refl
exact [] (y ∷ ys) h = cc
exact (x ∷ xs) [] h = cc
exact (x ∷ xs) (y ∷ ys) h =
    let both = and_parts (bytes_eq x y) (pointwise bytes_eq xs ys) h in ap₂ (λ z zs. z ∷ zs) ((bytes_eq-Decides x y).0 both.0) (exact xs ys both.1)

pub same_names-exact : (xs ys : List (List ℕ)) → same_names xs ys ≡ true → xs ≡ ys
unfolding same_names
same_names-exact = exact
