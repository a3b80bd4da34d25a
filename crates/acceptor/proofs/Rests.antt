-- What an acceptor keeps of slots from a base on.
use Rattle.std.proofs.Common.{◌≡◌, ℕ, true, false, cond, List, [], ◌∷◌, map, filter, refl, ap, ◌∙◌}
use Rattle.std.specs.Prelude.{nat_le}
use Rattle.std.specs.FinMap.{entries}
use Rattle.ballot.specs.Slots.{Slots}
use Rattle.ballot.specs.Rests.{kept_from, pvalues_from}
use Rattle.ballot.proofs.Rests.{entries_above}
use Rattle.acceptor.specs.Places.{pvalue_of}
use Rattle.acceptor.specs.declared.accepted.Accepted.{Accepted}

module _ {C : Type 0} (base : ℕ) where
  pvalues_of : (es : List (ℕ × Accepted C)) → map pvalue_of (filter (λ e. nat_le base e.0) es) ≡ pvalues_from base (map pvalue_of es)
  pvalues_of [] = refl
  pvalues_of (e ∷ es) =
      let kept = filter (λ (e : ℕ × Accepted C). nat_le base e.0) es in
      let rest = pvalues_from base (map pvalue_of es) in
      elim (nat_le base e.0) as (λ b. map pvalue_of (cond b (e ∷ kept) kept) ≡ cond b (pvalue_of e ∷ rest) rest) [
        | true ↦ ap (λ ps. pvalue_of e ∷ ps) (pvalues_of es)
        | false ↦ pvalues_of es
      ]

  -- the pvalues of the slots that are kept
  pub kept_pvalues : (m : Slots (Accepted C)) → map pvalue_of (entries (kept_from base m)) ≡ pvalues_from base (map pvalue_of (entries m))
  kept_pvalues m = ap (λ (es : List (ℕ × Accepted C)). map pvalue_of es) (entries_above base m) ∙ pvalues_of (entries m)
