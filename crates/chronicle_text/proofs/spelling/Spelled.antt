-- The words of a line that was written are those that were written.
use Rattle.std.proofs.Common.{◌≡◌, ℕ, true, false, List, [], ◌∷◌, ◌++◌, refl, ap, ◌∙◌, append-nil}
use Rattle.std.proofs.lemmas.Bool.{ne_eqb}
use Rattle.std.proofs.lemmas.List.Splits.{slice_split_none, slice_split_at}
use Rattle.std.proofs.lemmas.List.Elements.{All-cons, All-nil}
use Rattle.std.specs.List.{All, AllByRecursion}
use Rattle.std.specs.Prelude.{filter}
use Rattle.bean_codec.specs.Words.{is_space, is_word, pieces, words}
use Rattle.chronicle_text.specs.Lines.{spaced}
use Rattle.chronicle_text.proofs.spelling.Words.{Plain, AllPlain}

no_space : (word : List ℕ) → Plain word → All (λ b. is_space b ≡ false) word
no_space [] h = All-nil (λ b. is_space b ≡ false)
no_space (b ∷ word) h = All-cons (λ c. is_space c ≡ false) b word (ne_eqb b 32 h.0.0) (no_space word h.1)

pieces_back : (first : List ℕ) (others : List (List ℕ)) → Plain first → AllPlain others → pieces (first ++ spaced others) ≡ first ∷ others
pieces_back first [] p ps = ap pieces (append-nil first) ∙ slice_split_none is_space first (no_space first p)
pieces_back first (w ∷ others) p ps =
    slice_split_at is_space first 32 (w ++ spaced others) (no_space first p) refl ∙ ap (λ t. first ∷ t) (pieces_back w others ps.0 ps.1)

-- none of them is empty
abbrev pub AllSome : List (List ℕ) → Type 0
AllSome words = AllByRecursion (λ w. is_word w ≡ true) words

some_stay : (ws : List (List ℕ)) → AllSome ws → filter is_word ws ≡ ws
some_stay [] h = refl
some_stay (w ∷ ws) h = rw h.0 (ap (λ t. w ∷ t) (some_stay ws h.1))

pub words_back : (first : List ℕ) (others : List (List ℕ)) → Plain first → AllPlain others → is_word first ≡ true
    → AllSome others → words (first ++ spaced others) ≡ first ∷ others
words_back first others p ps s ss = ap (filter is_word) (pieces_back first others p ps) ∙ some_stay (first ∷ others) (s, ss)
