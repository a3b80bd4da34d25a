-- Records that stay one list in time.
use Rattle.std.proofs.Common.{◌≡◌, ◌≤◌, ℕ, ◌⊎◌, inl, inr, List, [], ◌∷◌, ◌++◌, refl, sym, ap, subst, ◌∙◌, arith}
use Rattle.object.specs.Lists.{In}
use Rattle.object.specs.declared.command.Submission.{Submission}
use Rattle.object.specs.Happenings.{ComeInOrder}

-- what stands in a list with one more at its end
pub in_more : {X : Type 0} (xs : List X) (y z : X) → In z (xs ++ y ∷ []) → In z xs ⊎ (z ≡ y)
in_more [] y z (inl h) = inr h
in_more [] y z (inr h) = absurd h
in_more (x ∷ xs) y z (inl h) = inl (inl h)
in_more (x ∷ xs) y z (inr h) = elim (in_more xs y z h) as (λ _. In z (x ∷ xs) ⊎ (z ≡ y)) [ inl i ↦ inl (inr i) | inr e ↦ inr e ]

-- a submission after each earlier one
pub order_more : {Op : Type 0} (xs : List (Submission Op)) (y : Submission Op) → ComeInOrder xs
    → ((s : Submission Op) → In s xs → s.after ≤ y.after) → ComeInOrder (xs ++ y ∷ [])
order_more [] y ordered before = ((λ t h. absurd h), tt)
order_more {Op} (x ∷ xs) y ordered before = (
  (λ t h. elim (in_more xs y t h) as (λ _. x.after ≤ t.after) [
    | inl i ↦ ordered.0 t i
    | inr e ↦ subst
        (λ (u : Submission Op). x.after ≤ u.after) (sym e) (before x (inl refl))
  ]),
  order_more xs y ordered.1 (λ s i. before s (inr i)),
)

-- and none comes after more than was given
pub within_more : {Op : Type 0} (xs : List (Submission Op)) (y : Submission Op) (n : ℕ)
    → ((s : Submission Op) → In s xs → s.after ≤ n) → y.after ≡ n → (s : Submission Op) → In s (xs ++ y ∷ [])
    → s.after ≤ n
within_more {Op} xs y n within own s h = elim (in_more xs y s h) as (λ _. s.after ≤ n) [
  | inl i ↦ within s i
  | inr e ↦ let same : s.after ≡ n = ap (λ (u : Submission Op). u.after) e ∙ own in omega arith
]
