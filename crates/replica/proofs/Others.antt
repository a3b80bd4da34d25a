-- Letters to the members other than the sender, one member after another.
use Rattle.std.proofs.Common.{◌≡◌, ℕ, ◌+◌, ◌==◌, true, false, cond, not, List, [], ◌∷◌, ◌++◌, map, sym, ap, ◌∙◌, append_assoc, arith}
use Rattle.std.proofs.lemmas.List.FromFn.{map-range_with_len_more}
use Rattle.std.proofs.lemmas.List.{append-nil, map-append, map-id}
use Rattle.std.proofs.lemmas.List.Elements.{filter-append}
use Rattle.std.specs.List.{range_with_len, filter}
use Rattle.ballot.specs.declared.letter.LetterBody.{LetterBody}
use Rattle.ballot.specs.declared.letter.Letter.{Letter}
use Rattle.ballot.specs.Letters.{letter}

range_more : (before : ℕ) → range_with_len 1 (before + 1) ≡ range_with_len 1 before ++ (before + 1) ∷ []
range_more before =
    let last : 1 + before ≡ before + 1 = omega arith in
    sym (map-id (range_with_len 1 (before + 1))) ∙ map-range_with_len_more (λ m. m) 1 before (before + 1) last ∙
    ap (λ ms. ms ++ (before + 1) ∷ []) (map-id (range_with_len 1 before))

-- the members 1 to `before` without n
abbrev pub others : ℕ → ℕ → List ℕ
others n before = filter (λ m. not (m == n)) (range_with_len 1 before)

others_more : (n before : ℕ) → others n (before + 1) ≡ others n before ++ filter (λ m. not (m == n)) ((before + 1) ∷ [])
others_more n before =
    ap (filter (λ m. not (m == n))) (range_more before) ∙ filter-append (λ m. not (m == n)) (range_with_len 1 before) ((before + 1) ∷ [])

-- one member more, who is another
pub other_more : {C : Type 0} (old now new : List (Letter C)) (n before : ℕ) (body : LetterBody C)
    → (before + 1 == n) ≡ false → now ≡ old ++ map (letter n body) (others n before)
    → new ≡ now ++ letter n body (before + 1) ∷ [] → new ≡ old ++ map (letter n body) (others n (before + 1))
other_more old now new n before body other sent pushed =
    pushed ∙ ap (λ ls. ls ++ letter n body (before + 1) ∷ []) sent ∙
    append_assoc old (map (letter n body) (others n before)) (letter n body (before + 1) ∷ []) ∙
    ap (λ ls. old ++ ls) (sym (ap (map (letter n body)) (others_more n before) ∙
    map-append (letter n body) (others n before) (filter (λ m. not (m == n)) ((before + 1) ∷ [])) ∙
    ap (λ b. map (letter n body) (others n before) ++ map (letter n body) (cond (not b) ((before + 1) ∷ []) [])) other))

-- and the sender
pub self_more : {C : Type 0} (old now : List (Letter C)) (n before : ℕ) (body : LetterBody C) → (before + 1 == n) ≡ true
    → now ≡ old ++ map (letter n body) (others n before) → now ≡ old ++ map (letter n body) (others n (before + 1))
self_more old now n before body itself sent =
    sent ∙ ap (λ ms. old ++ map (letter n body) ms) (sym (others_more n before ∙
    ap (λ b. others n before ++ cond (not b) ((before + 1) ∷ []) []) itself ∙ append-nil (others n before)))
