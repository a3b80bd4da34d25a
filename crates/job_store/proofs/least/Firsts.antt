-- What comes first of what is made of the elements of a list, one by one.
use Rattle.std.proofs.Common.{◌≡◌, ℕ, suc, ◌+◌, ◌<◌, ◌≤◌, true, List, ◌∷◌, Option, None, Some, length, get_or, drop}
use Rattle.std.proofs.Common.{drop-cons, filter_map, refl, sym, ap, ap₂, ◌∙◌, arith}
use Rattle.std.proofs.lemmas.List.{drop_all}
use Rattle.std.specs.List.{cons_option}
use Rattle.job_store.specs.Least.{first_of, least}
use Rattle.job_store.proofs.least.Least.{lesser-lesser}

pub first_of-assoc : {X : Type 0} (by : X → ℕ) (a b c : Option (ℕ × X)) → first_of by (first_of by a b) c ≡ first_of by a (first_of by b c)
first_of-assoc by None b c = refl
first_of-assoc by (Some e) None c = refl
first_of-assoc by (Some e) (Some d) c = ap Some (lesser-lesser by e d c)

-- with nothing after it
pub first_of-none : {X : Type 0} (by : X → ℕ) (o : Option (ℕ × X)) → o ≡ first_of by o None
first_of-none by None = refl
first_of-none by (Some e) = refl

module _ {A X : Type 0} (by : X → ℕ) (f : A → Option (ℕ × X)) where
  first-made : (o : Option (ℕ × X)) (es : List (ℕ × X)) → least (λ e. true) by (cons_option o es) ≡ first_of by o (least (λ e. true) by es)
  first-made None es = refl
  first-made (Some e) es = refl

  pub first-along : (xs : List A) (i : ℕ) (x y : A) (best best' all : Option (ℕ × X)) → i < length xs
      → x ≡ get_or xs i y → best' ≡ first_of by best (f x)
      → first_of by best (least (λ e. true) by (filter_map f (drop i xs))) ≡ all
      → first_of by best' (least (λ e. true) by (filter_map f (drop (i + 1) xs))) ≡ all
  first-along xs i x y best best' all below here new was =
      let rest = filter_map f (drop (i + 1) xs) in
      let next : suc i ≡ i + 1 = omega arith in
      let cut : drop i xs ≡ x ∷ drop (i + 1) xs = drop-cons xs i y below ∙ ap₂ (λ z n. z ∷ drop n xs) (sym here) next in
      ap (λ b. first_of by b (least (λ e. true) by rest)) new ∙
      first_of-assoc by best (f x) (least (λ e. true) by rest) ∙
      ap (first_of by best) (sym (first-made (f x) rest)) ∙
      ap (λ ys. first_of by best (least (λ e. true) by (filter_map f ys))) (sym cut) ∙
      was

  pub first-whole : (xs : List A) (i : ℕ) (best all : Option (ℕ × X)) → length xs ≤ i
      → first_of by best (least (λ e. true) by (filter_map f (drop i xs))) ≡ all → best ≡ all
  first-whole xs i best all end was =
      first_of-none by best ∙ ap (λ ys. first_of by best (least (λ e. true) by (filter_map f ys))) (sym (drop_all i xs end)) ∙ was
