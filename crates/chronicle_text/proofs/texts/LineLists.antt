-- A dump as lines of words, and back.
use Rattle.std.proofs.Common.{◌≡◌, ℕ, List, [], ◌∷◌, ◌++◌, map, length, replicate, bytes_eq, refl, sym, ap, ap₂, ◌∙◌}
use Rattle.std.proofs.Common.{arith, append_assoc, append-nil, length-append, codes, decimal}
use Rattle.std.specs.Prelude.{if◌then◌else◌}
use Rattle.std.specs.List.{flat_map, AllByRecursion}
use Rattle.std.proofs.lemmas.Grind.{flat_map-append}
use Rattle.ballot.specs.Members.{IsMembers}
use Rattle.object.specs.declared.command.Answer.{Answer}
use Rattle.object.specs.declared.command.Command.{Command}
use Rattle.object.specs.declared.command.Key.{Key}
use Rattle.bean_words.specs.declared.op.Op.{Op}
use Rattle.bean_words.specs.declared.reply.Reply.{Reply}
use Rattle.chronicle_text.specs.declared.version.Version.{Version}
use Rattle.chronicle_text.specs.declared.version.Version.TheVariants.{One, Two}
use Rattle.chronicle_text.specs.Acts.{act_words}
use Rattle.recorder.specs.Chronicles.{Chronicle}
use Rattle.chronicle_text.specs.Dump.{submission_line, answer_line, order_line, happening_line, version_word, version_line}
use Rattle.chronicle_text.specs.Dump.{members_line, weights_line, version_of, head_of, head_lines, end_line, dump_text}
use Rattle.chronicle_text.specs.Fits.{FitsKey, FitsCommand, FitsAnswer}
use Rattle.chronicle_text.specs.Happenings.{Happening, happenings}
use Rattle.chronicle_text.specs.Happenings.Happening.{Submitted, Answered}
use Rattle.chronicle_text.specs.Lines.{line, spaced, text_of_lines}
use Rattle.chronicle_text.specs.Replies.{reply_words}
use Rattle.chronicle_text.specs.Values.{IsLong}
use Rattle.chronicle_text.proofs.spelling.Back.{number, number_back, number_plain, act, act_back, act_plain, reply, reply_back, reply_plain}
use Rattle.chronicle_text.proofs.spelling.Heads.{ones, one_unweighted, weight_numbers, weights_plain, count_number, count_plain}
use Rattle.chronicle_text.proofs.spelling.ValueLists.{all_both}
use Rattle.chronicle_text.proofs.spelling.Words.{Plain, AllPlain, by_test, line_is, one_line}

-- a first word, and the words after it
abbrev pub Line : Type 0
Line = List ℕ × List (List ℕ)

abbrev pub text : Line → List ℕ
text l = line l.0 l.1

abbrev pub PlainLine : Line → Type 0
PlainLine l = Plain l.0 × AllPlain l.1

no_line : (l : Line) (x : List ℕ) → [] ≡ text l ++ x → ⊥
no_line l x same =
    let e = ap length (same ∙ line_is l.0 l.1 x) in
    omega (arith, e, length-append l.0 (spaced l.1 ++ (10 ∷ x)), length-append (spaced l.1) (10 ∷ x))

-- a text is of one list of plain lines
pub one_text : (ks ls : List Line) → AllByRecursion PlainLine ks → AllByRecursion PlainLine ls → flat_map text ks ≡ flat_map text ls → ks ≡ ls
one_text [] [] p q same = refl
one_text [] (l ∷ ls) p q same = absurd (no_line l (flat_map text ls) same)
one_text (k ∷ ks) [] p q same = absurd (no_line k (flat_map text ks) (sym same))
one_text (k ∷ ks) (l ∷ ls) p q same =
    let t = one_line k.0 l.0 k.1 l.1 (flat_map text ks) (flat_map text ls) p.0.0 q.0.0 p.0.1 q.0.1 same in
    let line : k ≡ l = ap₂ (λ (w : List ℕ) (ws : List (List ℕ)). let pair : Line = (w, ws) in pair) t.0 t.1 in
    ap₂ (λ (m : Line) ms. m ∷ ms) line (one_text ks ls p.1 q.1 t.2)

-- ---- the lines of a chronicle

abbrev pub happening_words : Happening Op Reply → Line
happening_words (Submitted c) = (codes "S", decimal c.key.session ∷ decimal c.key.number ∷ act_words c.act)
happening_words (Answered a) = (codes "A", decimal a.to.session ∷ decimal a.to.number ∷ reply_words a.reply)

abbrev pub order_words : Key → Line
order_words key = (codes "O", decimal key.session ∷ decimal key.number ∷ [])

abbrev pub end_words : Line
end_words = (codes "end", [])

abbrev pub tail_lines : List (Happening Op Reply) → List Key → List Line
tail_lines hs order = map happening_words hs ++ (map order_words order ++ (end_words ∷ []))

abbrev version_words : Version → Line
version_words v = (codes "beanpax-dump", version_word v ∷ [])

abbrev members_words : List ℕ → Line
members_words ws = (codes "members", decimal (length ws) ∷ [])

abbrev weights_words : List ℕ → Line
weights_words ws = (codes "weights", map decimal ws)

abbrev pub head_words : Version → List ℕ → List Line
head_words One ws = version_words One ∷ members_words ws ∷ []
head_words Two ws = version_words Two ∷ members_words ws ∷ weights_words ws ∷ []

abbrev pub lines : Chronicle Op Reply → List Line
lines c = head_words (version_of c.members) c.members ++ tail_lines (happenings c.submitted c.answers) c.order

happening_texts : (hs : List (Happening Op Reply)) → flat_map text (map happening_words hs) ≡ flat_map happening_line hs
unfolding submission_line answer_line
happening_texts [] = refl
happening_texts (Submitted c ∷ hs) = ap (λ t. submission_line c ++ t) (happening_texts hs)
happening_texts (Answered a ∷ hs) = ap (λ t. answer_line a ++ t) (happening_texts hs)

order_texts : (order : List Key) → flat_map text (map order_words order) ≡ flat_map order_line order
unfolding order_line
order_texts [] = refl
order_texts (key ∷ order) = ap (λ t. order_line key ++ t) (order_texts order)

tail_texts : (hs : List (Happening Op Reply)) (order : List Key)
    → flat_map text (tail_lines hs order) ≡ flat_map happening_line hs ++ (flat_map order_line order ++ end_line)
unfolding end_line
tail_texts hs order =
    flat_map-append text (map happening_words hs) (map order_words order ++ (end_words ∷ []))
    ∙ ap₂ (λ a b. a ++ b) (happening_texts hs)
    (flat_map-append text (map order_words order) (end_words ∷ [])
    ∙ ap₂ (λ a b. a ++ b) (order_texts order) (append-nil (text end_words)))

head_texts : (v : Version) (ws : List ℕ) → flat_map text (head_words v ws) ≡ text_of_lines (head_of v ws)
unfolding version_line members_line weights_line
head_texts One ws = refl
head_texts Two ws = refl

pub to_right : (a b c d : List ℕ) → a ++ b ++ c ++ d ≡ a ++ (b ++ (c ++ d))
to_right a b c d = append_assoc (a ++ b) c d ∙ append_assoc a b (c ++ d)

-- the text of a chronicle is that of its lines
pub dump_is : (c : Chronicle Op Reply) → dump_text c ≡ flat_map text (lines c)
unfolding dump_text
dump_is c =
    let hs = happenings c.submitted c.answers in
    to_right (text_of_lines (head_lines c.members)) (flat_map happening_line hs) (flat_map order_line c.order) end_line
    ∙ sym (flat_map-append text (head_words (version_of c.members) c.members) (tail_lines hs c.order) ∙ ap₂
    (λ a b. a ++ b) (head_texts (version_of c.members) c.members) (tail_texts hs c.order))

-- ---- and back

abbrev first_word : List (List ℕ) → List ℕ
first_word [] = []
first_word (w ∷ words) = w

abbrev key_of : List (List ℕ) → Key
key_of [] = record { session = 0; number = 0 }
key_of (s ∷ []) = record { session = 0; number = 0 }
key_of (s ∷ n ∷ words) = record { session = number s; number = number n }

abbrev after_key : List (List ℕ) → List (List ℕ)
after_key [] = []
after_key (s ∷ []) = []
after_key (s ∷ n ∷ words) = words

abbrev command : List (List ℕ) → Command Op
command words = record { key = key_of words; act = act (after_key words) }

abbrev answer : List (List ℕ) → Answer Reply
answer words = record { to = key_of words; reply = reply (after_key words) }

pub key_back : (key : Key) (words : List (List ℕ)) → FitsKey key → key_of (decimal key.session ∷ decimal key.number ∷ words) ≡ key
key_back key words h = ap₂ (λ (s n : ℕ). let k : Key = record { session = s; number = n } in k) (number_back key.session h.0) (number_back key.number h.1)

command_back : (c : Command Op) → FitsCommand c → command (decimal c.key.session ∷ decimal c.key.number ∷ act_words c.act) ≡ c
command_back c h = ap₂ (λ k a. let d : Command Op = record { key = k; act = a } in d) (key_back c.key (act_words c.act) h.0) (act_back c.act h.1)

answer_back : (a : Answer Reply) → FitsAnswer a → answer (decimal a.to.session ∷ decimal a.to.number ∷ reply_words a.reply) ≡ a
answer_back a h = ap₂ (λ k r. let b : Answer Reply = record { to = k; reply = r } in b) (key_back a.to (reply_words a.reply) h.0) (reply_back a.reply h.1)

-- what the lines say that happened
abbrev pub happened : List Line → List (Happening Op Reply)
happened [] = []
happened (l ∷ ls) =
    if bytes_eq l.0 (codes "S") then Submitted (command l.1) ∷ happened ls
    else if bytes_eq l.0 (codes "A") then Answered (answer l.1) ∷ happened ls
    else happened ls

-- and which commands counted
abbrev pub ordered : List Line → List Key
ordered [] = []
ordered (l ∷ ls) = if bytes_eq l.0 (codes "O") then key_of l.1 ∷ ordered ls else ordered ls

abbrev pub FitsHappening : Happening Op Reply → Type 0
FitsHappening (Submitted c) = FitsCommand c
FitsHappening (Answered a) = FitsAnswer a

happened_order : (order : List Key) → happened (map order_words order ++ (end_words ∷ [])) ≡ []
happened_order [] = refl
happened_order (key ∷ order) = happened_order order

pub happened_back : (hs : List (Happening Op Reply)) (order : List Key) → AllByRecursion FitsHappening hs → happened (tail_lines hs order) ≡ hs
happened_back [] order h = happened_order order
happened_back (Submitted c ∷ hs) order h = ap₂ (λ (d : Command Op) t. Submitted d ∷ t) (command_back c h.0) (happened_back hs order h.1)
happened_back (Answered a ∷ hs) order h = ap₂ (λ (b : Answer Reply) t. Answered b ∷ t) (answer_back a h.0) (happened_back hs order h.1)

ordered_order : (order : List Key) → AllByRecursion FitsKey order → ordered (map order_words order ++ (end_words ∷ [])) ≡ order
ordered_order [] h = refl
ordered_order (key ∷ order) h = ap₂ (λ k t. k ∷ t) (key_back key [] h.0) (ordered_order order h.1)

pub ordered_back : (hs : List (Happening Op Reply)) (order : List Key) → AllByRecursion FitsKey order → ordered (tail_lines hs order) ≡ order
ordered_back [] order h = ordered_order order h
ordered_back (Submitted c ∷ hs) order h = ordered_back hs order h
ordered_back (Answered a ∷ hs) order h = ordered_back hs order h

-- no line of a head tells either
pub head_happened : (v : Version) (ws : List ℕ) (ls : List Line) → happened (head_words v ws ++ ls) ≡ happened ls
head_happened One ws ls = refl
head_happened Two ws ls = refl

pub head_ordered : (v : Version) (ws : List ℕ) (ls : List Line) → ordered (head_words v ws ++ ls) ≡ ordered ls
head_ordered One ws ls = refl
head_ordered Two ws ls = refl

abbrev first_numbers : List Line → List ℕ
first_numbers [] = []
first_numbers (l ∷ ls) = map number l.1

-- the weights that the lines tell, by the version
abbrev pub weights : List Line → List ℕ
weights [] = []
weights (v ∷ []) = []
weights (v ∷ m ∷ ls) = if bytes_eq (first_word v.1) (codes "1") then replicate (number (first_word m.1)) 1 else first_numbers ls

numbers_back : (ns : List ℕ) → AllByRecursion IsLong ns → map number (map decimal ns) ≡ ns
numbers_back [] h = refl
numbers_back (n ∷ ns) h = ap₂ (λ m ms. m ∷ ms) (number_back n h.0) (numbers_back ns h.1)

pub weights_back : (v : Version) (ws : List ℕ) (ls : List Line) → version_of ws ≡ v → IsMembers ws → weights (head_words v ws ++ ls) ≡ ws
weights_back One ws ls is h = ap (λ n. replicate n 1) (number_back (length ws) (count_number ws h)) ∙ ones ws (one_unweighted ws is)
weights_back Two ws ls is h = numbers_back ws (weight_numbers ws h)

-- ---- its lines are plain

happening_plain : (h : Happening Op Reply) → FitsHappening h → PlainLine (happening_words h)
happening_plain (Submitted c) h = (by_test (codes "S") refl, (number_plain c.key.session h.0.0, (number_plain c.key.number h.0.1, act_plain c.act h.1)))
happening_plain (Answered a) h = (by_test (codes "A") refl, (number_plain a.to.session h.0.0, (number_plain a.to.number h.0.1, reply_plain a.reply h.1)))

tail_plain : (hs : List (Happening Op Reply)) (order : List Key) → AllByRecursion FitsHappening hs
    → AllByRecursion FitsKey order → AllByRecursion PlainLine (tail_lines hs order)
tail_plain [] [] h k = ((by_test (codes "end") refl, tt), tt)
tail_plain [] (key ∷ order) h k = ((by_test (codes "O") refl, (number_plain key.session k.0.0, (number_plain key.number k.0.1, tt))), tail_plain [] order h k.1)
tail_plain (x ∷ hs) order h k = (happening_plain x h.0, tail_plain hs order h.1 k)

head_plain : (v : Version) (ws : List ℕ) → IsMembers ws → AllByRecursion PlainLine (head_words v ws)
head_plain One ws h = ((by_test (codes "beanpax-dump") refl, (by_test (codes "1") refl, tt)), ((by_test (codes "members") refl, (count_plain ws h, tt)), tt))
head_plain Two ws h = (
  (by_test (codes "beanpax-dump") refl, (by_test (codes "2") refl, tt)),
  ((by_test (codes "members") refl, (count_plain ws h, tt)), ((by_test (codes "weights") refl, weights_plain ws h), tt)),
)

pub lines_plain : (c : Chronicle Op Reply) → IsMembers c.members
    → AllByRecursion FitsHappening (happenings c.submitted c.answers) → AllByRecursion FitsKey c.order
    → AllByRecursion PlainLine (lines c)
lines_plain c m h k =
    all_both PlainLine (head_words (version_of c.members) c.members)
    (tail_lines (happenings c.submitted c.answers) c.order) (head_plain (version_of c.members) c.members m)
    (tail_plain (happenings c.submitted c.answers) c.order h k)
