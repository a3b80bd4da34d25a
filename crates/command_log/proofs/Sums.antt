-- Words with their sum.
use Rattle.std.proofs.Common.{◌≡◌, ℕ, zero, suc, ◌-◌, ◌*◌, ◌/◌, ◌<◌, ◌≤◌, List, ◌++◌, length, take, drop, slice_index, refl, sym, ap, ap₂, Some, None}
use Rattle.std.proofs.Common.{◌∙◌, arith, codes, length-append}
use Rattle.std.proofs.lemmas.List.{length-take-le, take-append-drop, take_at, drop_at}
use Rattle.std.specs.Int.{w32, to_be_bytes}
use Rattle.hex.specs.Hex.{lower_digits}
use Rattle.hex.proofs.HexLemmas.{length-encode_with}
use Rattle.sha1.specs.Sha1.{sha1, digest_bytes, hash_after, padded_message}
use Rattle.chronicle_text.specs.Lines.{after_space}
use Rattle.command_log.specs.Lines.{EndsInSum}
use Rattle.command_log.specs.Text.{sum_word, sum_end, summed}

digest_long : (h : List ℕ) (n : ℕ) → length (digest_bytes h n) ≡ 4 * n
unfolding digest_bytes
digest_long h zero = refl
digest_long h (suc n) =
    let last : length (to_be_bytes w32 (slice_index h n)) ≡ 4 = refl in
    omega (arith, last, length-append (digest_bytes h n) (to_be_bytes w32 (slice_index h n)), digest_long h n)

sha1_long : (m : List ℕ) → length (sha1 m) ≡ 20
unfolding sha1
sha1_long m = digest_long (hash_after (padded_message m) (length (padded_message m) / 64)) 5

pub sum_word_long : (words : List ℕ) → length (sum_word words) ≡ 8
unfolding sum_word
sum_word_long words =
    let long = sha1_long words in
    let four : length (take 4 (sha1 words)) ≡ 4 = length-take-le 4 (sha1 words) (omega (arith, long)) in
    omega (arith, four, length-encode_with lower_digits (take 4 (sha1 words)))

pub sum_end_long : (words : List ℕ) → length (sum_end words) ≡ 10
unfolding sum_end
sum_end_long words = omega (arith, length-append (after_space (sum_word words)) (codes "\n"), sum_word_long words)

pub one_summed : (a b : List ℕ) → summed a ≡ summed b → a ≡ b
one_summed a b same =
    let long : length a ≡ length b =
    omega (arith, length-append a (sum_end a), length-append b (sum_end b), ap length same, sum_end_long a, sum_end_long b) in
    sym (take_at a (sum_end a) (length b) long) ∙ ap (take (length b)) same ∙ take_at b (sum_end b) (length b) refl

-- ---- the line of some words

short_of_sum : (line words : List ℕ) → length line < 10 → summed words ≡ line → ⊥
short_of_sum line words short same = absurd (omega (arith, ap length same, length-append words (sum_end words), sum_end_long words))

pub too_short : (line : List ℕ) → length line < 10 → EndsInSum line None
too_short line short words same = short_of_sum line words short same

-- a line is cut where its sum begins
cut_line : (line words end : List ℕ) → words ≡ take (length line - 10) line → end ≡ drop (length line - 10) line → line ≡ words ++ end
cut_line line words end front back =
    sym (take-append-drop (length line - 10) line) ∙ ap₂ (λ (a b : List ℕ). a ++ b) (sym front) (sym back)

pub other_sum : (line words end : List ℕ) → words ≡ take (length line - 10) line → end ≡ drop (length line - 10) line
    → (sum_end words ≡ end → ⊥) → EndsInSum line None
other_sum line words end front back other others same =
    let len = length-append others (sum_end others) in
    let at : length others ≡ length line - 10 = omega (arith, len, ap length same, sum_end_long others) in
    let those : words ≡ others = front ∙ ap (take (length line - 10)) (sym same) ∙ take_at others (sum_end others) (length line - 10) at in
    let behind : end ≡ sum_end others = back ∙ ap (drop (length line - 10)) (sym same) ∙ drop_at others (sum_end others) (length line - 10) at in
    other (ap sum_end those ∙ sym behind)

pub right_sum : (line words end sum : List ℕ) → words ≡ take (length line - 10) line → end ≡ drop (length line - 10) line
    → sum_end words ≡ end → sum ≡ sum_word words → EndsInSum line (Some sum)
right_sum line words end sum front back same is = (words, ap (λ t. words ++ t) same ∙ sym (cut_line line words end front back), is)

-- the words in front of it
pub words_of : (line words : List ℕ) → summed words ≡ line → take (length line - 10) line ≡ words
words_of line words same =
    let at : length words ≡ length line - 10 = omega (arith, length-append words (sum_end words), ap length same, sum_end_long words) in
    ap (take (length line - 10)) (sym same) ∙ take_at words (sum_end words) (length line - 10) at

pub long_enough : (line words : List ℕ) → summed words ≡ line → 10 ≤ length line
long_enough line words same = omega (arith, length-append words (sum_end words), ap length same, sum_end_long words)
