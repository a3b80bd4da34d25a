-- A text that is written piece by piece.
use Rattle.std.proofs.Common.{◌≡◌, ℕ, List, ◌++◌, ap, ◌∙◌}
use Rattle.std.proofs.lemmas.List.{append_assoc}

-- first a piece, and then the rest
pub written : (old new later piece rest : List ℕ) → new ≡ old ++ piece → later ≡ new ++ rest → later ≡ old ++ (piece ++ rest)
written old new later piece rest first more = more ∙ ap (λ xs. xs ++ rest) first ∙ append_assoc old piece rest

-- what was written so far, and then a piece
pub onward : (so_far old new piece : List ℕ) → old ≡ so_far → new ≡ old ++ piece → new ≡ so_far ++ piece
onward so_far old new piece was more = more ∙ ap (λ xs. xs ++ piece) was
