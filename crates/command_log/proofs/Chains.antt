-- How lines are chained.
use Rattle.std.proofs.Common.{◌≡◌, ℕ, ◌-◌, ◌≤◌, ◌==◌, ◌&&◌, not, true, List, [], ◌∷◌, ◌++◌, length, take, drop}
use Rattle.std.proofs.Common.{refl, sym, ap, ◌∙◌, arith, codes, length-append}
use Rattle.std.proofs.lemmas.Bool.{and_from, ne_eqb, not_from_false}
use Rattle.std.proofs.lemmas.List.{append_cancel_left, take_at, drop_at}
use Rattle.object.specs.declared.command.Command.{Command}
use Rattle.bean_words.specs.declared.op.Op.{Op}
use Rattle.chronicle_text.specs.Lines.{NoFeed, after_space}
use Rattle.chronicle_text.proofs.spelling.Back.{hex_plain}
use Rattle.chronicle_text.proofs.spelling.EntryLines.{plain_no_feed}
use Rattle.chronicle_text.proofs.spelling.Words.{IsPlain, Plain, by_test}
use Rattle.command_log.specs.declared.chain.Chain.{Chain}
use Rattle.command_log.specs.declared.chain.Chain.TheVariants.{Unchained, After}
use Rattle.command_log.specs.declared.version.LogVersion.{LogVersion}
use Rattle.command_log.specs.declared.version.LogVersion.TheVariants.{One, Two}
use Rattle.command_log.specs.Lines.{IsChain, IsSum, is_plain_word}
use Rattle.command_log.specs.Text.{sum_word, chain_words, next_chain, chain_behind, chain_after, log_chain, chained_words, head_line, first_chain}
use Rattle.command_log.proofs.Sums.{sum_word_long}

-- ---- sums are words

is_plain_byte : (b : ℕ) → IsPlain b → (not (b == 32) && not (b == 10)) ≡ true
is_plain_byte b h = and_from (not (b == 32)) (not (b == 10)) (not_from_false (b == 32) (ne_eqb b 32 h.0)) (not_from_false (b == 10) (ne_eqb b 10 h.1))

plain_is_word : (word : List ℕ) → Plain word → is_plain_word word ≡ true
plain_is_word [] h = refl
plain_is_word (b ∷ word) h = and_from (not (b == 32) && not (b == 10)) (is_plain_word word) (is_plain_byte b h.0) (plain_is_word word h.1)

pub sum_is : (words : List ℕ) → IsSum (sum_word words)
unfolding sum_word
sum_is words = record { long = sum_word_long words; word = plain_is_word (sum_word words) (hex_plain _) }

sum_no_feed : (sum : List ℕ) → IsSum sum → NoFeed (after_space sum)
sum_no_feed sum h = ((λ same. omega arith), plain_no_feed sum (by_test sum h.word))

-- ---- what a line says of the one before it

pub chain_no_feed : (version : LogVersion) (chain : Chain) → IsChain version chain → NoFeed (chain_words chain)
chain_no_feed One Unchained h = tt
chain_no_feed One (After sum) h = absurd h
chain_no_feed Two Unchained h = absurd h
chain_no_feed Two (After sum) h = sum_no_feed sum h

-- how many bytes that takes
abbrev chain_size : LogVersion → ℕ
chain_size One = 0
chain_size Two = 9

chain_long : (version : LogVersion) (chain : Chain) → IsChain version chain → length (chain_words chain) ≡ chain_size version
chain_long One Unchained h = refl
chain_long One (After sum) h = absurd h
chain_long Two Unchained h = absurd h
chain_long Two (After sum) h = let long = h.long in omega (arith, long, length-append (codes " ") sum)

pub chain_short : (version : LogVersion) (chain : Chain) → IsChain version chain → length (chain_words chain) ≤ 9
chain_short One chain h = omega (arith, chain_long One chain h)
chain_short Two chain h = omega (arith, chain_long Two chain h)

-- ---- which it is can be told from the words

pub same_ends : (a b x y : List ℕ) → length x ≡ length y → a ++ x ≡ b ++ y → (a ≡ b) × (x ≡ y)
same_ends a b x y long same =
    let at : length a ≡ length b = omega (arith, long, ap length same, length-append a x, length-append b y) in (
      sym (take_at a x (length b) at) ∙ ap (take (length b)) same ∙ take_at b y (length b) refl,
      sym (drop_at a x (length b) at) ∙ ap (drop (length b)) same ∙ drop_at b y (length b) refl,
    )

one_chain : (version : LogVersion) (a b : Chain) → IsChain version a → IsChain version b → chain_words a ≡ chain_words b → a ≡ b
one_chain One Unchained Unchained h k same = refl
one_chain One (After sum) b h k same = absurd h
one_chain One a (After sum) h k same = absurd k
one_chain Two Unchained b h k same = absurd h
one_chain Two a Unchained h k same = absurd k
one_chain Two (After sum) (After other) h k same = ap After (append_cancel_left (codes " ") sum other same)

pub one_chained : (version : LogVersion) (a b : List ℕ) (x y : Chain) → IsChain version x → IsChain version y
    → a ++ chain_words x ≡ b ++ chain_words y → (a ≡ b) × (x ≡ y)
one_chained version a b x y h k same =
    let both = same_ends a b (chain_words x) (chain_words y) (chain_long version x h ∙ sym (chain_long version y k)) same in
    (both.0, one_chain version x y h k both.1)

-- ---- the lines of a log are chained as its version says

pub next_is : (version : LogVersion) (chain : Chain) (words : List ℕ) → IsChain version chain
    → IsChain version (next_chain chain (sum_word words))
next_is One Unchained words h = tt
next_is One (After sum) words h = absurd h
next_is Two Unchained words h = absurd h
next_is Two (After sum) words h = sum_is words

pub first_is : (version : LogVersion) (weights : List ℕ) → IsChain version (first_chain version weights)
first_is One weights = tt
first_is Two weights = sum_is (head_line Two weights)

after_is : (version : LogVersion) (chain : Chain) (commands : List (Command Op)) → IsChain version chain
    → IsChain version (chain_after chain commands)
after_is version chain [] h = h
after_is version chain (c ∷ commands) h =
    after_is version (chain_behind chain c) commands (next_is version chain (chained_words chain c) h)

pub log_is : (version : LogVersion) (weights : List ℕ) (commands : List (Command Op)) → IsChain version (log_chain version weights commands)
unfolding log_chain
log_is version weights commands = after_is version (first_chain version weights) commands (first_is version weights)

-- ---- the last words of a line

pub two_short : (words : List ℕ) → length words ≤ 8 → (front : List ℕ) (chain : Chain) → IsChain Two chain → front ++ chain_words chain ≡ words → ⊥
two_short words short front chain h same =
    absurd (omega (arith, short, chain_long Two chain h, ap length same, length-append front (chain_words chain)))

pub last_nine : (words front : List ℕ) (chain : Chain) → IsChain Two chain → front ++ chain_words chain ≡ words
    → drop (length words - 9) words ≡ chain_words chain
last_nine words front chain h same =
    let at : length front ≡ length words - 9 = omega (arith, chain_long Two chain h, ap length same, length-append front (chain_words chain)) in
    ap (drop (length words - 9)) (sym same) ∙ drop_at front (chain_words chain) (length words - 9) at
