-- One letter more of those to all.
use Rattle.std.proofs.Common.{◌≡◌, ℕ, ◌+◌, List, [], ◌∷◌, ◌++◌, map, sym, ap, ap₂, ◌∙◌, append_assoc, length, arith}
use Rattle.std.proofs.lemmas.List.FromFn.{map-range_with_len_more}
use Rattle.std.specs.List.{range_with_len}
use Rattle.ballot.specs.declared.letter.LetterBody.{LetterBody}
use Rattle.ballot.specs.declared.letter.Letter.{Letter}
use Rattle.ballot.specs.Letters.{letter, to_all}

pub one_more : {C : Type 0} (old now new : List (Letter C)) (n before : ℕ) (body copy : LetterBody C)
    → now ≡ old ++ map (letter n body) (range_with_len 1 before) → copy ≡ body
    → new ≡ now ++ letter n copy (before + 1) ∷ [] → new ≡ old ++ map (letter n body) (range_with_len 1 (before + 1))
one_more {C} old now new n before body copy sent same pushed =
    let last : 1 + before ≡ before + 1 = omega arith in
    pushed ∙ ap₂ (λ ls b. ls ++ letter n b (before + 1) ∷ []) sent same ∙
    append_assoc old (map (letter n body) (range_with_len 1 before)) (letter n body (before + 1) ∷ []) ∙
    ap (λ ls. old ++ ls) (sym (map-range_with_len_more (letter n body) 1 before (before + 1) last))

-- the last of them
pub with_last : {C : Type 0} (old now new : List (Letter C)) (members : List ℕ) (n before last : ℕ)
    (body copy : LetterBody C) → before + 1 ≡ last → last ≡ length members
    → now ≡ old ++ map (letter n body) (range_with_len 1 before) → copy ≡ body → new ≡ now ++ letter n copy last ∷ []
    → new ≡ old ++ to_all members n body
with_last {C} old now new members n before last body copy next all sent same pushed =
    one_more old now new n before body copy sent same (pushed ∙ ap (λ m. now ++ letter n copy m ∷ []) (sym next)) ∙
    ap (λ m. old ++ map (letter n body) (range_with_len 1 m)) (next ∙ all)
