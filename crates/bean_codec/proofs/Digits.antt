-- What `parse` reads of a word, as the number of the grammar.
use Rattle.std.proofs.Common.{◌≡◌, ◌≢◌, ℕ, ◌<◌, ◌^◌, true, false, Some, None, Result, Ok, Err, List, [], ◌∷◌, length}
use Rattle.std.proofs.Common.{take, get_or, ltb, refl, ap, sym, ◌∙◌, inl, inr, arith}
use Rattle.std.proofs.lemmas.Bool.{lt-ltb, ltb-true, cases_Bool, false_from_ne_true}
use Rattle.std.proofs.lemmas.Bool.Decides.{nat_tests}
use Rattle.std.proofs.lemmas.Fmt.{IsAscii-from_digits}
use Rattle.std.proofs.lemmas.Str.{IsUtf8-from_ascii}
use Rattle.std.proofs.lemmas.Str.Parse.{IsNumeralModel, numerals_by_value, tells_all_ascii_digits, parse_plain}
use Rattle.std.specs.Result.{result_ok}
use Rattle.std.specs.Str.{IsUtf8, all_ascii_digits, bytes_eq}
use Rattle.std.specs.Str.Parse.{ParsesUnsigned, digits_value}
use Rattle.bean_codec.specs.Numbers.{number_below}

numerals : IsNumeralModel (λ ds. all_ascii_digits ds ≡ true) (digits_value 10)
numerals = numerals_by_value _ tells_all_ascii_digits

-- a word of digits, whose number is below the limit
number_below-digits : (limit : ℕ) (word : List ℕ) → 0 < length word → all_ascii_digits word ≡ true
    → digits_value 10 word < limit → number_below limit word ≡ Some (digits_value 10 word)
unfolding number_below
number_below-digits limit [] n d l = absurd (omega arith)
number_below-digits limit (b ∷ rest) n d l =
    rw (d, lt-ltb (digits_value 10 (b ∷ rest)) limit l) refl

-- a word that isn't one has no number
number_below-none : (limit : ℕ) (word : List ℕ)
    → ¬ ((all_ascii_digits word ≡ true) × (0 < length word) × (digits_value 10 word < limit))
    → number_below limit word ≡ None
unfolding number_below
number_below-none limit [] h = refl
number_below-none limit (b ∷ rest) h =
    elim (cases_Bool (all_ascii_digits (b ∷ rest))) [
      | inl d ↦ rw (
        d,
        false_from_ne_true (ltb (digits_value 10 (b ∷ rest)) limit)
            (λ l. h (d, omega arith, ltb-true (digits_value 10 (b ∷ rest)) limit l)),
      ) refl
      | inr d ↦ rw d refl
    ]

-- what is no text has no number
pub number_below-bytes : (limit : ℕ) (word : List ℕ) → ¬ (IsUtf8 word) → number_below limit word ≡ None
number_below-bytes limit word h =
    number_below-none limit word (λ k. h (IsUtf8-from_ascii word (IsAscii-from_digits word (numerals.to word k.0))))

-- what begins with no plus, as its first byte says
no_plus : (word : List ℕ) → bytes_eq (43 ∷ []) (take 1 word) ≡ false → get_or word 0 0 ≢ 43
no_plus [] h e = omega arith
no_plus (b ∷ rest) h e = grind (arith, nat_tests)

-- nor has what begins with a plus; any other text has the number that `parse` gives
pub parse_number : {E : Type 0} (word : List ℕ) (r : Result ℕ E) → ParsesUnsigned 64 10 word r
    → bytes_eq (43 ∷ []) (take 1 word) ≡ false → result_ok r ≡ number_below (2 ^ 64) word
parse_number {E} word (Ok n) h plus =
    let ne = no_plus word plus in
    let read = parse_plain numerals {E = E} 64 word (Ok n) h ne in
    ap Some read.1 ∙ sym (number_below-digits (2 ^ 64) word read.0.1 read.0.0 read.0.2)
parse_number {E} word (Err e) h plus =
    let ne = no_plus word plus in
    let read = parse_plain numerals {E = E} 64 word (Err e) h ne in
    sym (number_below-none (2 ^ 64) word read)
