-- Texts of weights: what is read of them, and that it is the one way to read them.
use Rattle.std.proofs.Common.{◌≡◌, ◌∙◌, sym, ap, ap₂, subst, refl, arith, ℕ, zero, suc, ◌<◌, ◌≤◌, ◌^◌, true, false}
use Rattle.std.proofs.Common.{List, [], ◌∷◌, ◌++◌, length, map, decimal, Option, None, Some, Result, Ok}
use Rattle.std.specs.List.{All, AllByRecursion, join_with_byte, slice_split, list_all}
use Rattle.std.specs.Char.{digit_value}
use Rattle.std.specs.Str.Parse.{AllDigits, ParsesUnsigned, digits_value}
use Rattle.std.proofs.Math.Dec.{eqb}
use Rattle.std.specs.Cmp.Lexicographic.{pointwise}
use Rattle.std.specs.Prelude.{SomeIff, slice_index_or}
use Rattle.std.proofs.lemmas.Bool.{and_parts, eqb-true, eq-eqb, false_from_ne_true}
use Rattle.std.proofs.lemmas.Bool.Decides.{nat_tests}
use Rattle.std.proofs.lemmas.Fmt.{decimal_is_IsNumeral, parse-decimal}
use Rattle.std.proofs.lemmas.List.Elements.{All-nil, All-cons}
use Rattle.std.proofs.lemmas.List.Splits.{slice_split_at, slice_split_none, join_with_byte-slice_split}
use Rattle.ballot.specs.Members.{IsMembers, is_weight}
use Rattle.options.specs.Weights.{AreWeightsIn, weights_text}

-- no comma stands in the word
abbrev IsWhole : List ℕ → Type 0
IsWhole word = All (λ b. eqb b 44 ≡ false) word

no_digit : (b : ℕ) → digit_value b < 10 → eqb b 44 ≡ false
no_digit b h = false_from_ne_true (eqb b 44)
    (λ e. let comma : digit_value 44 < 10 =
    subst (λ (c : ℕ). digit_value c < 10) (eqb-true b 44 e) h in absurd (omega arith))

digits_whole : (word : List ℕ) → AllDigits 10 word → IsWhole word
digits_whole [] h = All-nil (λ b. eqb b 44 ≡ false)
digits_whole (b ∷ word) h = All-cons (λ b. eqb b 44 ≡ false) b word (no_digit b h.0) (digits_whole word h.1)

pub weight_fits : (w : ℕ) → is_weight w ≡ true → w < 2 ^ 64
weight_fits w h = let few : w ≤ 1000 = grind (arith, nat_tests) in omega arith

decimal_whole : (w : ℕ) → is_weight w ≡ true → IsWhole (decimal w)
decimal_whole w h = digits_whole (decimal w) (decimal_is_IsNumeral w (weight_fits w h)).0.1

-- the words of a text are cut where they were joined
split_back : (w : ℕ) (ws : List ℕ) → list_all is_weight (w ∷ ws) ≡ true → slice_split (λ b. eqb b 44) (weights_text (w ∷ ws)) ≡ map decimal (w ∷ ws)
split_back w [] h = slice_split_none (λ b. eqb b 44) (decimal w) (decimal_whole w (and_parts (is_weight w) true h).0)
split_back w (v ∷ ws) h =
    let both = and_parts (is_weight w) (list_all is_weight (v ∷ ws)) h in
    slice_split_at (λ b. eqb b 44) (decimal w) 44 (weights_text (v ∷ ws)) (decimal_whole w both.0) refl ∙ ap (λ rest. decimal w ∷ rest) (split_back v ws both.1)

pub words_back : (ws : List ℕ) (text : List ℕ) → IsMembers ws → weights_text ws ≡ text → slice_split (λ b. eqb b 44) text ≡ map decimal ws
words_back [] text m h = absurd (let some = m.some in omega arith)
words_back (w ∷ ws) text m h = subst (λ t. slice_split (λ b. eqb b 44) t ≡ map decimal (w ∷ ws)) h (split_back w ws m.each)

one_decimal : (v w : ℕ) → v < 2 ^ 64 → w < 2 ^ 64 → decimal v ≡ decimal w → v ≡ w
one_decimal v w p q h = sym (decimal_is_IsNumeral v p).1 ∙ ap (digits_value 10) h ∙ (decimal_is_IsNumeral w q).1

-- a weight that a word writes is what is read of it
pub weight_read : {E : Type 0} (w : ℕ) (word : List ℕ) (read : Result ℕ E) → is_weight w ≡ true → decimal w ≡ word
    → ParsesUnsigned 32 10 word read → read ≡ Ok w
weight_read w word read is e parses =
    let few : w ≤ 1000 = grind (arith, nat_tests) in
    parse-decimal 32 w word read (omega arith) (omega arith) (sym e) parses

text_itself : (text : List ℕ) → pointwise eqb text text ≡ true
text_itself [] = refl
text_itself (b ∷ text) = rw (eq-eqb b b refl, text_itself text) refl

-- a text is itself
pub same_text : (a b : List ℕ) → a ≡ b → pointwise eqb a b ≡ true
same_text a b e = subst (λ t. pointwise eqb a t ≡ true) e (text_itself a)

-- the word of a weight of members, and what may follow it
pub weight_at : (ws : List ℕ) (i : ℕ) → list_all is_weight ws ≡ true → i < length ws → is_weight (slice_index_or ws i 0) ≡ true
weight_at [] i h k = absurd (omega arith)
weight_at (w ∷ ws) zero h k = (and_parts (is_weight w) (list_all is_weight ws) h).0
weight_at (w ∷ ws) (suc i) h k = weight_at ws i (and_parts (is_weight w) (list_all is_weight ws) h).1 (omega arith)

at_decimals : (ws : List ℕ) (i : ℕ) → i < length (map decimal ws) → (i < length ws) × (slice_index_or (map decimal ws) i [] ≡ decimal (slice_index_or ws i 0))
at_decimals [] i k = absurd (omega arith)
at_decimals (w ∷ ws) zero k = (omega arith, refl)
at_decimals (w ∷ ws) (suc i) k = let rest = at_decimals ws i (omega arith) in let within = rest.0 in (omega arith, rest.1)

pub word_at : (ws : List ℕ) (words : List (List ℕ)) (i : ℕ) → words ≡ map decimal ws → i < length words
    → (i < length ws) × (slice_index_or words i [] ≡ decimal (slice_index_or ws i 0))
word_at ws words i e k = subst (λ v. i < length v → (i < length ws) × (slice_index_or v i [] ≡ decimal (slice_index_or ws i 0))) (sym e) (at_decimals ws i) k

-- each is below 2^64
abbrev pub AreLong : List ℕ → Type 0
AreLong ws = AllByRecursion (λ w. w < 2 ^ 64) ws

pub one_list : (vs ws : List ℕ) → AreLong vs → AreLong ws → map decimal vs ≡ map decimal ws → vs ≡ ws
one_list [] [] p q h = refl
one_list [] (w ∷ ws) p q h = cc
one_list (v ∷ vs) [] p q h = cc
one_list (v ∷ vs) (w ∷ ws) p q h =
    let first : decimal v ≡ decimal w = cc in
    let rest : map decimal vs ≡ map decimal ws = cc in
    ap₂ (λ x xs. x ∷ xs) (one_decimal v w p.0 q.0 first) (one_list vs ws p.1 q.1 rest)

-- weights of members are
pub members_long : (ws : List ℕ) → list_all is_weight ws ≡ true → AreLong ws
members_long [] h = tt
members_long (w ∷ ws) h = let both = and_parts (is_weight w) (list_all is_weight ws) h in (weight_fits w both.0, members_long ws both.1)

pub long_last : (ws : List ℕ) (w : ℕ) → AreLong ws → w < 2 ^ 64 → AreLong (ws ++ (w ∷ []))
long_last [] w h k = (k, tt)
long_last (v ∷ ws) w h k = (h.0, long_last ws w h.1 k)

-- the words of the text write these weights
pub weights_told : (text weights : List ℕ) (told : Option (List ℕ))
    → map decimal weights ≡ slice_split (λ b. eqb b 44) text → AreLong weights
    → SomeIff told (IsMembers weights) weights → AreWeightsIn text told
weights_told text weights None e long h = λ ws m same.
    let one = one_list weights ws long (members_long ws m.each) (e ∙ words_back ws text m same) in h (subst IsMembers (sym one) m)
weights_told text weights (Some v) e long h =
    (subst IsMembers (sym h.1) h.0, ap weights_text h.1 ∙ ap (join_with_byte 44) e ∙ join_with_byte-slice_split 44 text)

-- the word at this place is none of a weight
pub no_weight : (ws : List ℕ) (words : List (List ℕ)) (i : ℕ) → IsMembers ws → words ≡ map decimal ws → i < length words
    → ((w : ℕ) → is_weight w ≡ true → decimal w ≡ slice_index_or words i [] → ⊥) → ⊥
no_weight ws words i m e k none = let at = word_at ws words i e k in none (slice_index_or ws i 0) (weight_at ws i m.each at.0) (sym at.1)
