-- The first word of a line, and the words after it.
use Rattle.std.proofs.Common.{◌≡◌, ℕ, zero, suc, ◌<◌, ◌≤◌, Bool, true, false, not, ◌||◌, Option, Some, None, unwrap_or}
use Rattle.std.proofs.Common.{List, [], ◌∷◌, length, take, drop, get_or, refl, ap, sym, ◌∙◌, arith, add-zero}
use Rattle.std.proofs.lemmas.Bool.{false≢true}
use Rattle.std.proofs.lemmas.List.{take_all, drop_all, length-drop, get_or-drop}
use Rattle.std.proofs.lemmas.List.Splits.{slice_split-cons_yes, slice_split-cons_no}
use Rattle.std.specs.Prelude.{filter}
use Rattle.bstr.specs.Bytes.{is_in, not_in}
use Rattle.bstr.specs.Find.{IsFirstByte, is_byte}
use Rattle.bean_codec.specs.Words.{is_space, is_word, pieces, words}

not_true : (b : Bool) → ¬ (b ≡ true) → b ≡ false
not_true true h = absurd (h refl)
not_true false h = refl

-- a byte that is not outside the set of the space alone is a space
space_in : (b : ℕ) → ¬ (not_in (32 ∷ []) b ≡ true) → is_space b ≡ true
unfolding is_in
space_in b h = elim (is_space b) as (λ t. ¬ (not (t || false) ≡ true) → t ≡ true) [ true ↦ λ _. refl | false ↦ λ k. absurd (k refl) ] h

space_out : (b : ℕ) → not_in (32 ∷ []) b ≡ true → is_space b ≡ false
unfolding is_in
space_out b h = elim (is_space b) as (λ t. not (t || false) ≡ true → t ≡ false) [ true ↦ λ e. absurd (false≢true e) | false ↦ λ _. refl ] h

-- a space in front is passed over
words-space : (b : ℕ) (xs : List ℕ) → is_space b ≡ true → words (b ∷ xs) ≡ words xs
words-space b xs h = ap (filter is_word) (slice_split-cons_yes is_space b xs h)

-- so are several
words-spaces : (k : ℕ) (xs : List ℕ) → k ≤ length xs → ((j : ℕ) → j < k → is_space (get_or xs j 0) ≡ true) → words xs ≡ words (drop k xs)
words-spaces zero xs n h = refl
words-spaces (suc k) [] n h = absurd (omega arith)
words-spaces (suc k) (b ∷ xs) n h =
    words-space b xs (h 0 (omega arith)) ∙ words-spaces k xs (omega arith) (λ j l. h (suc j) (omega arith))

-- bytes that are no spaces are one piece, up to the end
pieces_whole : (xs : List ℕ) → ((j : ℕ) → j < length xs → is_space (get_or xs j 0) ≡ false) → pieces xs ≡ xs ∷ []
pieces_whole [] h = refl
pieces_whole (b ∷ xs) h =
    slice_split-cons_no is_space b xs (h 0 (omega arith)) ∙ rw (pieces_whole xs (λ j l. h (suc j) (omega arith))) refl

-- or up to the next space
pieces_first : (k : ℕ) (xs : List ℕ) → k < length xs → ((j : ℕ) → j < k → is_space (get_or xs j 0) ≡ false)
    → is_space (get_or xs k 0) ≡ true → pieces xs ≡ take k xs ∷ pieces (drop (suc k) xs)
pieces_first k [] n h s = absurd (omega arith)
pieces_first zero (b ∷ xs) n h s = slice_split-cons_yes is_space b xs s
pieces_first (suc k) (b ∷ xs) n h s =
    slice_split-cons_no is_space b xs (h 0 (omega arith)) ∙ rw (pieces_first k xs (omega arith) (λ j l. h (suc j) (omega arith)) s) refl

-- the words from a space on
words-drop : (k : ℕ) (xs : List ℕ) → k < length xs → is_space (get_or xs k 0) ≡ true → words (drop k xs) ≡ words (drop (suc k) xs)
words-drop k [] n s = absurd (omega arith)
words-drop zero (b ∷ xs) n s = words-space b xs s
words-drop (suc k) (b ∷ xs) n s = words-drop k xs (omega arith) s

-- the first word of a line that begins with no space
first_word : (xs : List ℕ) (r : Option ℕ) → 0 < length xs → is_space (get_or xs 0 0) ≡ false
    → IsFirstByte (is_byte 32) xs r
    → words xs ≡ take (unwrap_or r (length xs)) xs ∷ words (drop (unwrap_or r (length xs)) xs)
first_word [] r n first found = absurd (omega arith)
first_word (b ∷ xs) None n first found =
    let no_space = λ (j : ℕ) (l : j < suc (length xs)). not_true (is_space (get_or (b ∷ xs) j 0)) (found j (omega arith) l) in
    ap (filter is_word) (pieces_whole (b ∷ xs) no_space)
    ∙ rw (take_all (suc (length xs)) (b ∷ xs) (omega arith), drop_all (suc (length xs)) (b ∷ xs) (omega arith)) refl
first_word (b ∷ xs) (Some zero) n first found = absurd (false≢true (sym first ∙ found.1))
first_word (b ∷ xs) (Some (suc k)) n first found =
    let no_space = λ (j : ℕ) (l : j < suc k). not_true (is_space (get_or (b ∷ xs) j 0)) (found.0.before j (omega arith) l) in
    let inside : suc k < suc (length xs) = found.0.high in
    ap (filter is_word) (pieces_first (suc k) (b ∷ xs) inside no_space found.1)
    ∙ ap (λ t. (b ∷ take k xs) ∷ t) (sym (words-drop k xs (omega arith) found.1))

-- what the search for the next word found
pub no_word : (xs : List ℕ) → IsFirstByte (not_in (32 ∷ [])) xs None → words xs ≡ []
no_word xs found =
    words-spaces (length xs) xs (omega arith) (λ j l. space_in (get_or xs j 0) (found j (omega arith) l))
    ∙ ap words (drop_all (length xs) xs (omega arith))

pub next_word : (xs : List ℕ) (start : ℕ) (from_word : List ℕ) (r : Option ℕ)
    → IsFirstByte (not_in (32 ∷ [])) xs (Some start) → from_word ≡ drop start xs → IsFirstByte (is_byte 32) from_word r
    → words xs ≡ take (unwrap_or r (length from_word)) from_word ∷ words
    (drop (unwrap_or r (length from_word)) from_word)
next_word xs start from_word r found same next =
    let inside : start < length xs = found.0.high in
    let n : 0 < length from_word = rw same (omega (arith, length-drop start xs)) in
    let first : is_space (get_or from_word 0 0) ≡ false = rw (same, get_or-drop start xs 0 0, add-zero) (space_out (get_or xs start 0) found.1) in
    words-spaces start xs (omega arith) (λ j l. space_in (get_or xs j 0) (found.0.before j (omega arith) l))
    ∙ (ap words (sym same) ∙ first_word from_word r n first next)
