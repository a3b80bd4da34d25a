-- How many words an act has. Its first one tells it, so with another word behind them they are no act's, and no line of one
-- version is one of another.
use Rattle.std.proofs.Common.{◌≡◌, ℕ, suc, List, [], ◌∷◌, ◌++◌, length, codes, decimal, Some, None}
use Rattle.std.proofs.Common.{bytes_eq, refl, sym, ap, ◌∙◌, arith, append_assoc, append-nil, length-append}
use Rattle.std.proofs.lemmas.Grind.{flat_map-append}
use Rattle.std.specs.Prelude.{if◌then◌else◌}
use Rattle.object.specs.declared.command.Act.{Act}
use Rattle.object.specs.declared.command.Act.TheVariants.{Do, Close, Tick}
use Rattle.object.specs.declared.command.Command.{Command}
use Rattle.bean_words.specs.declared.op.Op.{Op}
use Rattle.bean_words.specs.declared.op.Op.TheVariants.{Put, Use, Watch, Ignore, Reserve, Delete, Touch, Release, Bury}
use Rattle.bean_words.specs.declared.op.Op.TheVariants.{Kick, KickJob, Peek, PeekReady, PeekDelayed, PeekBuried}
use Rattle.bean_words.specs.declared.op.Op.TheVariants.{ListTubes, ListTubeUsed, ListTubesWatched, Pause}
use Rattle.bean_words.specs.declared.op.Op.TheVariants.{ReserveJob, StatsJob, StatsTube, Stats}
use Rattle.chronicle_text.specs.Acts.{act_words, op_words}
use Rattle.chronicle_text.specs.Lines.{after_space, line, spaced}
use Rattle.chronicle_text.specs.Values.{IsActValue, IsCommandValue, IsLong, IsShort}
use Rattle.chronicle_text.proofs.spelling.Back.{act_plain, number_plain}
use Rattle.chronicle_text.proofs.spelling.Words.{AllPlain, Plain, by_test}
use Rattle.chronicle_text.proofs.spelling.Words as words
use Rattle.chronicle_text.proofs.spelling.ValueLists.{all_both}
use Rattle.command_log.specs.declared.chain.Chain.{Chain}
use Rattle.command_log.specs.declared.chain.Chain.TheVariants.{Unchained, After}
use Rattle.command_log.specs.declared.version.LogVersion.{LogVersion}
use Rattle.command_log.specs.declared.version.LogVersion.TheVariants.{One, Two}
use Rattle.command_log.specs.Lines.{IsChain, IsLogged}
use Rattle.command_log.specs.Text.{chained_words, command_words, line_of_command}
use Rattle.command_log.proofs.Spelled.{one_line}
use Rattle.command_log.proofs.Sums.{one_summed}

-- ---- the words for an act

-- how many they are, by the first
abbrev many : List ℕ → ℕ
many word =
    if bytes_eq word (codes "close") then 1
    else if bytes_eq word (codes "tick") then 1
    else if bytes_eq word (codes "reserve") then 1
    else if bytes_eq word (codes "peek-ready") then 1
    else if bytes_eq word (codes "peek-delayed") then 1
    else if bytes_eq word (codes "peek-buried") then 1
    else if bytes_eq word (codes "list-tubes") then 1
    else if bytes_eq word (codes "list-tube-used") then 1
    else if bytes_eq word (codes "list-tubes-watched") then 1
    else if bytes_eq word (codes "stats") then 1
    else if bytes_eq word (codes "bury") then 3
    else if bytes_eq word (codes "pause-tube") then 3
    else if bytes_eq word (codes "release") then 4
    else if bytes_eq word (codes "put") then 5
    else 2

-- words of which the first tells how many they are
pub record AreCounted (words : List (List ℕ)) : Type 0 where
  pub first : List ℕ
  pub others : List (List ℕ)
  pub is : words ≡ first ∷ others
  pub count : suc (length others) ≡ many first
  pub plain : AllPlain words

counted : (first : List ℕ) (others : List (List ℕ)) → suc (length others) ≡ many first → AllPlain (first ∷ others) → AreCounted (first ∷ others)
counted first others count plain = record { first = first; others = others; is = refl; count = count; plain = plain }

long : (n : ℕ) → IsShort n → IsLong n
long n h = omega arith

act_counted : (a : Act Op) → IsActValue a → AreCounted (act_words a)
unfolding act_words op_words
act_counted Close h = counted _ _ refl (act_plain Close tt)
act_counted Tick h = counted _ _ refl (act_plain Tick tt)
act_counted (Do (Put pri delay ttr b)) h =
    counted _ _ refl (act_plain (Do (Put pri delay ttr b)) (long pri h.0, long delay h.1, long ttr h.2, h.3))
act_counted (Do (Use tube)) h = counted _ _ refl (act_plain (Do (Use tube)) h)
act_counted (Do (Watch tube)) h = counted _ _ refl (act_plain (Do (Watch tube)) h)
act_counted (Do (Ignore tube)) h = counted _ _ refl (act_plain (Do (Ignore tube)) h)
act_counted (Do (Reserve None)) h = counted _ _ refl (act_plain (Do (Reserve None)) tt)
act_counted (Do (Reserve (Some seconds))) h = counted _ _ refl (act_plain (Do (Reserve (Some seconds))) (long seconds h))
act_counted (Do (Delete id)) h = counted _ _ refl (act_plain (Do (Delete id)) h)
act_counted (Do (Touch id)) h = counted _ _ refl (act_plain (Do (Touch id)) h)
act_counted (Do (Release id pri delay)) h =
    counted _ _ refl (act_plain (Do (Release id pri delay)) (h.0, long pri h.1, long delay h.2))
act_counted (Do (Bury id pri)) h = counted _ _ refl (act_plain (Do (Bury id pri)) (h.0, long pri h.1))
act_counted (Do (Kick bound)) h = counted _ _ refl (act_plain (Do (Kick bound)) (long bound h))
act_counted (Do (KickJob id)) h = counted _ _ refl (act_plain (Do (KickJob id)) h)
act_counted (Do (Peek id)) h = counted _ _ refl (act_plain (Do (Peek id)) h)
act_counted (Do PeekReady) h = counted _ _ refl (act_plain (Do PeekReady) tt)
act_counted (Do PeekDelayed) h = counted _ _ refl (act_plain (Do PeekDelayed) tt)
act_counted (Do PeekBuried) h = counted _ _ refl (act_plain (Do PeekBuried) tt)
act_counted (Do ListTubes) h = counted _ _ refl (act_plain (Do ListTubes) tt)
act_counted (Do ListTubeUsed) h = counted _ _ refl (act_plain (Do ListTubeUsed) tt)
act_counted (Do ListTubesWatched) h = counted _ _ refl (act_plain (Do ListTubesWatched) tt)
act_counted (Do (Pause tube seconds)) h = counted _ _ refl (act_plain (Do (Pause tube seconds)) (h.0, long seconds h.1))
act_counted (Do (ReserveJob id)) h = counted _ _ refl (act_plain (Do (ReserveJob id)) h)
act_counted (Do (StatsJob id)) h = counted _ _ refl (act_plain (Do (StatsJob id)) h)
act_counted (Do (StatsTube tube)) h = counted _ _ refl (act_plain (Do (StatsTube tube)) h)
act_counted (Do Stats) h = counted _ _ refl (act_plain (Do Stats) tt)

none_with_one_more : (xs ys : List (List ℕ)) (word : List ℕ) → AreCounted xs → AreCounted ys → xs ≡ ys ++ (word ∷ []) → ⊥
none_with_one_more xs ys word h k same =
    let all : h.first ∷ h.others ≡ (k.first ∷ k.others) ++ (word ∷ []) = sym h.is ∙ same ∙ ap (λ l. l ++ (word ∷ [])) k.is in
    let first : h.first ≡ k.first = cc in
    let others : h.others ≡ k.others ++ (word ∷ []) = cc in
    let more = h.count in
    let few = k.count in
    absurd (omega (arith, more, few, ap many first, ap length others, length-append k.others (word ∷ [])))

-- ---- the words for a command

spaced_last : (words : List (List ℕ)) (word : List ℕ) → spaced (words ++ (word ∷ [])) ≡ spaced words ++ after_space word
spaced_last words word =
    flat_map-append after_space words (word ∷ []) ∙ ap (λ t. spaced words ++ t) (append-nil (after_space word))

command_line : (c : Command Op) → command_words c ++ codes "\n" ≡ line (decimal c.key.session) (decimal c.key.number ∷ act_words c.act)
unfolding command_words line
command_line c = refl

longer_line : (c : Command Op) (word : List ℕ)
    → (command_words c ++ after_space word) ++ codes "\n" ≡ line (decimal c.key.session) ((decimal c.key.number ∷ act_words c.act) ++ (word ∷ []))
unfolding command_words line
longer_line c word =
    let words = decimal c.key.number ∷ act_words c.act in
    ap (λ t. t ++ codes "\n")
    (append_assoc (decimal c.key.session) (spaced words) (after_space word) ∙ ap (λ t. decimal c.key.session ++ t) (sym (spaced_last words word)))

none_longer : (c d : Command Op) (word : List ℕ) → IsCommandValue c → IsCommandValue d → Plain word
    → command_words c ≡ command_words d ++ after_space word → ⊥
none_longer c d word h k plain same =
    let x = act_counted c.act h.1 in
    let y = act_counted d.act k.1 in
    let left = decimal c.key.number ∷ act_words c.act in
    let right = (decimal d.key.number ∷ act_words d.act) ++ (word ∷ []) in
    let one = words.one_line (decimal c.key.session) (decimal d.key.session) left right [] [] (number_plain c.key.session (long c.key.session h.0.0))
    (number_plain d.key.session (long d.key.session k.0.0)) (number_plain c.key.number h.0.1, x.plain)
    (number_plain d.key.number k.0.1, all_both Plain (act_words d.act) (word ∷ []) y.plain (plain, tt))
    (ap (λ t. t ++ []) (sym (command_line c) ∙ ap (λ t. t ++ codes "\n") same ∙ longer_line d word)) in
    let words : act_words c.act ≡ act_words d.act ++ (word ∷ []) = cc in
    none_with_one_more (act_words c.act) (act_words d.act) word x y words

-- two lines of whatever versions are one only where they are chained to one line
pub one_chain : (a b : LogVersion) (x y : Chain) (c d : Command Op) → IsChain a x → IsChain b y → IsLogged c → IsLogged d
    → line_of_command x c ≡ line_of_command y d → x ≡ y
one_chain One One x y c d h k l m same = (one_line One x y c d h k l m same).0
one_chain Two Two x y c d h k l m same = (one_line Two x y c d h k l m same).0
one_chain One Two Unchained (After sum) c d h k l m same = absurd (none_longer c d sum l.value m.value (by_test sum k.word)
    (sym (append-nil (command_words c)) ∙ one_summed (chained_words Unchained c) (chained_words (After sum) d) same))
one_chain Two One (After sum) Unchained c d h k l m same = absurd (none_longer d c sum m.value l.value (by_test sum h.word)
    (sym (append-nil (command_words d)) ∙ sym (one_summed (chained_words (After sum) c) (chained_words Unchained d) same)))
one_chain One Two (After sum) y c d h k l m same = absurd h
one_chain One Two Unchained Unchained c d h k l m same = absurd k
one_chain Two One Unchained y c d h k l m same = absurd h
one_chain Two One (After sum) (After before) c d h k l m same = absurd k
