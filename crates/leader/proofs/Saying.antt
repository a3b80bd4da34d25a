-- What is said to all, one body after another.
use Rattle.std.proofs.Common.{◌≡◌, ℕ, List, [], ◌∷◌, ◌++◌, map, refl, sym, ap, ◌∙◌, append_assoc}
use Rattle.std.proofs.lemmas.List.{append-nil}
use Rattle.std.proofs.lemmas.Grind.{flat_map-append}
use Rattle.ballot.specs.declared.letter.LetterBody.{LetterBody}
use Rattle.ballot.specs.declared.letter.Letter.{Letter}
use Rattle.ballot.specs.Letters.{to_all, all_to_all}

-- nothing
pub said_nothing : {C : Type 0} (old : List (Letter C)) (members : List ℕ) (node : ℕ) (says : List (LetterBody C))
    → says ≡ [] → old ≡ old ++ all_to_all members node says
said_nothing old members node says e = sym (append-nil old) ∙ ap (λ bs. old ++ all_to_all members node bs) (sym e)

-- one body more
pub said_more : {C : Type 0} (old now new : List (Letter C)) (members : List ℕ) (node : ℕ) (says : List (LetterBody C))
    (body : LetterBody C) → now ≡ old ++ all_to_all members node says → new ≡ now ++ to_all members node body
    → new ≡ old ++ all_to_all members node (says ++ body ∷ [])
said_more old now new members node says body said sent =
    sent ∙ ap (λ ls. ls ++ to_all members node body) said ∙
    append_assoc old (all_to_all members node says) (to_all members node body) ∙
    ap (λ ls. old ++ (all_to_all members node says ++ ls)) (sym (append-nil (to_all members node body))) ∙
    ap (λ ls. old ++ ls) (sym (flat_map-append (to_all members node) says (body ∷ [])))

mapped : {A X Y : Type 0} (f : X → Y) (shows : A → X) (xs : List A) (x : A) → map f (map shows (xs ++ x ∷ [])) ≡ map f (map shows xs) ++ f (shows x) ∷ []
mapped f shows [] x = refl
mapped f shows (y ∷ xs) x = ap (λ ys. f (shows y) ∷ ys) (mapped f shows xs x)

-- one more of those that are said by entries
pub said_next : {C A X : Type 0} (old now new : List (Letter C)) (members : List ℕ) (node : ℕ) (f : X → LetterBody C)
    (shows : A → X) (xs : List A) (x : A) → now ≡ old ++ all_to_all members node (map f (map shows xs))
    → new ≡ now ++ to_all members node (f (shows x))
    → new ≡ old ++ all_to_all members node (map f (map shows (xs ++ x ∷ [])))
said_next old now new members node f shows xs x said sent =
    said_more old now new members node (map f (map shows xs)) (f (shows x)) said sent ∙
    ap (λ bs. old ++ all_to_all members node bs) (sym (mapped f shows xs x))
