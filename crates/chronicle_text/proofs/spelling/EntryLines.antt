-- A line that says something says it alone.
use Rattle.std.proofs.Common.{◌≡◌, ℕ, ◌<◌, ◌≤◌, ◌^◌, true, List, [], ◌∷◌, ◌++◌, map, length, Some, None, refl, sym, ap}
use Rattle.std.proofs.Common.{◌∙◌, arith, codes, decimal, append_assoc, length-append}
use Rattle.std.proofs.lemmas.Bool.{lt-ltb, le-leb, eq-eqb}
use Rattle.std.proofs.lemmas.Fmt.{decimal_is_IsNumeral}
use Rattle.std.specs.List.{AllByRecursion}
use Rattle.hex.specs.Hex.{encode_with}
use Rattle.ballot.specs.Members.{IsMembers}
use Rattle.object.specs.Commands.{IsCommand, MayAsk}
use Rattle.object.specs.declared.command.Act.{Act}
use Rattle.object.specs.declared.command.Act.TheVariants.{Do, Close, Tick}
use Rattle.object.specs.declared.command.Key.{Key}
use Rattle.bean_words.specs.Names.{IsName}
use Rattle.bean_words.specs.declared.op.Op.{Op}
use Rattle.bean_words.specs.declared.op.Op.TheVariants.{Put, Use, Watch, Ignore, Reserve, Delete, Touch, Release, Bury}
use Rattle.bean_words.specs.declared.op.Op.TheVariants.{Kick, KickJob, Peek, PeekReady, PeekDelayed, PeekBuried}
use Rattle.bean_words.specs.declared.op.Op.TheVariants.{ListTubes, ListTubeUsed, ListTubesWatched, Pause}
use Rattle.bean_words.specs.declared.op.Op.TheVariants.{ReserveJob, StatsJob, StatsTube, Stats}
use Rattle.bean_words.specs.declared.reply.Reply.{Reply}
use Rattle.bean_words.specs.declared.reply.Reply.TheVariants.{Inserted, Using, Watching, NotIgnored, Reserved}
use Rattle.bean_words.specs.declared.reply.Reply.TheVariants.{DeadlineSoon, TimedOut, Deleted, NotFound, Released}
use Rattle.bean_words.specs.declared.reply.Reply.TheVariants.{Buried, Touched, KickedCount, Kicked, Found, Tubes}
use Rattle.bean_words.specs.declared.reply.Reply.TheVariants.{Paused, Data, InternalError}
use Rattle.bean_codec.specs.Words.{is_word, words}
use Rattle.chronicle_text.specs.declared.entry.Entry.{Entry}
use Rattle.chronicle_text.specs.declared.entry.Entry.TheVariants as entry
use Rattle.chronicle_text.specs.declared.version.Version.{Version}
use Rattle.chronicle_text.specs.declared.version.Version.TheVariants.{One, Two}
use Rattle.chronicle_text.specs.Acts.{op_words, act_words}
use Rattle.chronicle_text.specs.Dump.{version_word, version_line, members_line, weights_line, submission_line, answer_line, order_line, end_line}
use Rattle.chronicle_text.specs.Entries.{entry_line, IsEntryValue}
use Rattle.chronicle_text.specs.Fits.{FitsAct}
use Rattle.chronicle_text.specs.Lines.{NoFeed, line, spaced, body_word}
use Rattle.chronicle_text.specs.Replies.{reply_words}
use Rattle.chronicle_text.specs.Told.{may_ask, submitted_of, entry_under, key_of, keyed_entry, version_of_words}
use Rattle.chronicle_text.specs.Told.{members_of_words, are_weights, weighted, weights_of, entry_of_words}
use Rattle.chronicle_text.specs.Values.{IsShort, IsKeyValue, IsActValue, IsReplyValue, IsLong}
use Rattle.chronicle_text.proofs.spelling.Back.{number_plain, act_plain, reply_plain}
use Rattle.chronicle_text.proofs.spelling.Heads.{short_weights, weight_numbers, weights_plain}
use Rattle.chronicle_text.proofs.spelling.Spelled.{AllSome, words_back}
use Rattle.chronicle_text.proofs.spelling.ToldBack.{long_back, short_back, numbers_back, act_back, reply_back}
use Rattle.chronicle_text.proofs.spelling.Words.{Plain, AllPlain, by_test}

-- ---- the words of a line

abbrev pub first_word : Entry → List ℕ
first_word (entry.Version v) = codes "beanpax-dump"
first_word (entry.Members n) = codes "members"
first_word (entry.Weights ws) = codes "weights"
first_word (entry.Submitted c) = codes "S"
first_word (entry.Answered a) = codes "A"
first_word (entry.Placed key) = codes "O"
first_word entry.End = codes "end"

abbrev pub other_words : Entry → List (List ℕ)
other_words (entry.Version v) = version_word v ∷ []
other_words (entry.Members n) = decimal n ∷ []
other_words (entry.Weights ws) = map decimal ws
other_words (entry.Submitted c) = decimal c.key.session ∷ decimal c.key.number ∷ act_words c.act
other_words (entry.Answered a) = decimal a.to.session ∷ decimal a.to.number ∷ reply_words a.reply
other_words (entry.Placed key) = decimal key.session ∷ decimal key.number ∷ []
other_words entry.End = []

-- the line but for its line feed
abbrev pub said : Entry → List ℕ
said e = first_word e ++ spaced (other_words e)

pub line_is : (e : Entry) → entry_line e ≡ said e ++ (10 ∷ [])
unfolding version_line members_line weights_line submission_line answer_line order_line end_line line
line_is (entry.Version v) = refl
line_is (entry.Members n) = refl
line_is (entry.Weights ws) = refl
line_is (entry.Submitted c) = refl
line_is (entry.Answered a) = refl
line_is (entry.Placed key) = refl
line_is entry.End = refl

-- ---- they are plain, and none is empty

short_long : (n : ℕ) → IsShort n → IsLong n
short_long n h = omega arith

act_fits : (a : Act Op) → IsActValue a → FitsAct a
act_fits Close h = tt
act_fits Tick h = tt
act_fits (Do (Put pri delay ttr b)) h = (short_long pri h.0, short_long delay h.1, short_long ttr h.2, h.3)
act_fits (Do (Use tube)) h = h
act_fits (Do (Watch tube)) h = h
act_fits (Do (Ignore tube)) h = h
act_fits (Do (Reserve None)) h = tt
act_fits (Do (Reserve (Some seconds))) h = short_long seconds h
act_fits (Do (Delete id)) h = h
act_fits (Do (Touch id)) h = h
act_fits (Do (Release id pri delay)) h = (h.0, short_long pri h.1, short_long delay h.2)
act_fits (Do (Bury id pri)) h = (h.0, short_long pri h.1)
act_fits (Do (Kick bound)) h = short_long bound h
act_fits (Do (KickJob id)) h = h
act_fits (Do (Peek id)) h = h
act_fits (Do PeekReady) h = tt
act_fits (Do PeekDelayed) h = tt
act_fits (Do PeekBuried) h = tt
act_fits (Do ListTubes) h = tt
act_fits (Do ListTubeUsed) h = tt
act_fits (Do ListTubesWatched) h = tt
act_fits (Do (Pause tube seconds)) h = (h.0, short_long seconds h.1)
act_fits (Do (ReserveJob id)) h = h
act_fits (Do (StatsJob id)) h = h
act_fits (Do (StatsTube tube)) h = h
act_fits (Do Stats) h = tt

reply_fits : (r : Reply) → IsReplyValue r → IsReplyValue r
reply_fits (Inserted id) h = h
reply_fits (Using tube) h = h
reply_fits (Watching count) h = h
reply_fits NotIgnored h = tt
reply_fits (Reserved id b) h = h
reply_fits DeadlineSoon h = tt
reply_fits TimedOut h = tt
reply_fits Deleted h = tt
reply_fits NotFound h = tt
reply_fits Released h = tt
reply_fits Buried h = tt
reply_fits Touched h = tt
reply_fits (KickedCount count) h = h
reply_fits Kicked h = tt
reply_fits (Found id b) h = h
reply_fits (Tubes names) h = h
reply_fits (Data text) h = h
reply_fits Paused h = tt
reply_fits InternalError h = tt

first_plain : (e : Entry) → Plain (first_word e)
first_plain (entry.Version v) = by_test (codes "beanpax-dump") refl
first_plain (entry.Members n) = by_test (codes "members") refl
first_plain (entry.Weights ws) = by_test (codes "weights") refl
first_plain (entry.Submitted c) = by_test (codes "S") refl
first_plain (entry.Answered a) = by_test (codes "A") refl
first_plain (entry.Placed key) = by_test (codes "O") refl
first_plain entry.End = by_test (codes "end") refl

key_plain : (key : Key) (others : List (List ℕ)) → IsKeyValue key → AllPlain others → AllPlain (decimal key.session ∷ decimal key.number ∷ others)
key_plain key others h p = (number_plain key.session (short_long key.session h.0), (number_plain key.number h.1, p))

version_plain : (v : Version) → Plain (version_word v)
version_plain One = by_test (codes "1") refl
version_plain Two = by_test (codes "2") refl

others_plain : (e : Entry) → IsEntryValue e → AllPlain (other_words e)
others_plain (entry.Version v) h = (version_plain v, tt)
others_plain (entry.Members n) h = (number_plain n (omega arith), tt)
others_plain (entry.Weights ws) h = weights_plain ws h
others_plain (entry.Submitted c) h = key_plain c.key (act_words c.act) h.0 (act_plain c.act (act_fits c.act h.1))
others_plain (entry.Answered a) h = key_plain a.to (reply_words a.reply) h.0 (reply_plain a.reply (reply_fits a.reply h.1))
others_plain (entry.Placed key) h = key_plain key [] h tt
others_plain entry.End h = tt

longer : (word : List ℕ) → 0 < length word → is_word word ≡ true
longer [] h = absurd (omega arith)
longer (b ∷ word) h = refl

number_some : (n : ℕ) → IsLong n → is_word (decimal n) ≡ true
number_some n h = longer (decimal n) (decimal_is_IsNumeral n h).0.0

name_some : (name : List ℕ) → IsName name → is_word name ≡ true
name_some name h = longer name h.some

names_some : (names : List (List ℕ)) → AllByRecursion IsName names → AllSome names
names_some [] h = tt
names_some (name ∷ names) h = (name_some name h.0, names_some names h.1)

body_some : (bytes : List ℕ) → is_word (body_word bytes) ≡ true
unfolding body_word encode_with
body_some [] = refl
body_some (b ∷ more) = refl

act_some : (a : Act Op) → FitsAct a → AllSome (act_words a)
unfolding act_words op_words
act_some Close h = (refl, tt)
act_some Tick h = (refl, tt)
act_some (Do (Put pri delay ttr b)) h = (refl, (number_some pri h.0, (number_some delay h.1, (number_some ttr h.2, (body_some b, tt)))))
act_some (Do (Use tube)) h = (refl, (name_some tube h, tt))
act_some (Do (Watch tube)) h = (refl, (name_some tube h, tt))
act_some (Do (Ignore tube)) h = (refl, (name_some tube h, tt))
act_some (Do (Reserve None)) h = (refl, tt)
act_some (Do (Reserve (Some seconds))) h = (refl, (number_some seconds h, tt))
act_some (Do (Delete id)) h = (refl, (number_some id h, tt))
act_some (Do (Touch id)) h = (refl, (number_some id h, tt))
act_some (Do (Release id pri delay)) h = (refl, (number_some id h.0, (number_some pri h.1, (number_some delay h.2, tt))))
act_some (Do (Bury id pri)) h = (refl, (number_some id h.0, (number_some pri h.1, tt)))
act_some (Do (Kick bound)) h = (refl, (number_some bound h, tt))
act_some (Do (KickJob id)) h = (refl, (number_some id h, tt))
act_some (Do (Peek id)) h = (refl, (number_some id h, tt))
act_some (Do PeekReady) h = (refl, tt)
act_some (Do PeekDelayed) h = (refl, tt)
act_some (Do PeekBuried) h = (refl, tt)
act_some (Do ListTubes) h = (refl, tt)
act_some (Do ListTubeUsed) h = (refl, tt)
act_some (Do ListTubesWatched) h = (refl, tt)
act_some (Do (Pause tube seconds)) h = (refl, (name_some tube h.0, (number_some seconds h.1, tt)))
act_some (Do (ReserveJob id)) h = (refl, (number_some id h, tt))
act_some (Do (StatsJob id)) h = (refl, (number_some id h, tt))
act_some (Do (StatsTube tube)) h = (refl, (name_some tube h, tt))
act_some (Do Stats) h = (refl, tt)

reply_some : (r : Reply) → IsReplyValue r → AllSome (reply_words r)
unfolding reply_words
reply_some (Inserted id) h = (refl, (number_some id h, tt))
reply_some (Using tube) h = (refl, (name_some tube h, tt))
reply_some (Watching count) h = (refl, (number_some count h, tt))
reply_some NotIgnored h = (refl, tt)
reply_some (Reserved id b) h = (refl, (number_some id h.0, (body_some b, tt)))
reply_some DeadlineSoon h = (refl, tt)
reply_some TimedOut h = (refl, tt)
reply_some Deleted h = (refl, tt)
reply_some NotFound h = (refl, tt)
reply_some Released h = (refl, tt)
reply_some Buried h = (refl, tt)
reply_some Touched h = (refl, tt)
reply_some (KickedCount count) h = (refl, (number_some count h, tt))
reply_some Kicked h = (refl, tt)
reply_some (Found id b) h = (refl, (number_some id h.0, (body_some b, tt)))
reply_some (Tubes names) h = (refl, names_some names h)
reply_some (Data text) h = (refl, (body_some text, tt))
reply_some Paused h = (refl, tt)
reply_some InternalError h = (refl, tt)

first_some : (e : Entry) → is_word (first_word e) ≡ true
first_some (entry.Version v) = refl
first_some (entry.Members n) = refl
first_some (entry.Weights ws) = refl
first_some (entry.Submitted c) = refl
first_some (entry.Answered a) = refl
first_some (entry.Placed key) = refl
first_some entry.End = refl

version_some : (v : Version) → is_word (version_word v) ≡ true
version_some One = refl
version_some Two = refl

numbers_some : (ns : List ℕ) → AllByRecursion IsLong ns → AllSome (map decimal ns)
numbers_some [] h = tt
numbers_some (n ∷ ns) h = (number_some n h.0, numbers_some ns h.1)

others_some : (e : Entry) → IsEntryValue e → AllSome (other_words e)
others_some (entry.Version v) h = (version_some v, tt)
others_some (entry.Members n) h = (number_some n (omega arith), tt)
others_some (entry.Weights ws) h = numbers_some ws (weight_numbers ws h)
others_some (entry.Submitted c) h = (
  number_some c.key.session (short_long c.key.session h.0.0),
  (number_some c.key.number h.0.1, act_some c.act (act_fits c.act h.1)),
)
others_some (entry.Answered a) h = (
  number_some a.to.session (short_long a.to.session h.0.0),
  (number_some a.to.number h.0.1, reply_some a.reply (reply_fits a.reply h.1)),
)
others_some (entry.Placed key) h = (number_some key.session (short_long key.session h.0), (number_some key.number h.1, tt))
others_some entry.End h = tt

-- ---- what they tell

may : (key : Key) (act : Act Op) → MayAsk key act → may_ask key act ≡ true
may key (Do op) h = lt-ltb 0 key.session h
may key Close h = lt-ltb 0 key.session h
may key Tick h = rw (eq-eqb key.session 0 h.0, le-leb key.number (2 ^ 40) h.1) refl

-- a key that may ask has its command
pub command_told : (key : Key) (act : Act Op) → IsCommand (record { key = key; act = act })
    → submitted_of key act ≡ Some (entry.Submitted (record { key = key; act = act }))
unfolding submitted_of
command_told key act h = rw (may key act h.allowed, lt-ltb 0 key.number h.above, le-leb key.number (2 ^ 62) h.within) refl

key_told : (key : Key) → IsKeyValue key → key_of (decimal key.session) (decimal key.number) ≡ Some key
unfolding key_of
key_told key h = rw (short_back key.session h.0, long_back key.number h.1) refl

keyed_told : (letter : List ℕ) (key : Key) (others : List (List ℕ)) (e : Entry) → IsKeyValue key
    → entry_under letter key others ≡ Some e
    → keyed_entry letter (decimal key.session ∷ decimal key.number ∷ others) ≡ Some e
unfolding keyed_entry
keyed_told letter key others e h told = rw (key_told key h) told

submitted_told : (key : Key) (act : Act Op) → IsActValue act → IsCommand (record { key = key; act = act })
    → entry_under (codes "S") key (act_words act) ≡ Some (entry.Submitted (record { key = key; act = act }))
unfolding entry_under
submitted_told key act h is = rw (act_back act h) (command_told key act is)

answered_told : (key : Key) (reply : Reply) → IsReplyValue reply
    → entry_under (codes "A") key (reply_words reply) ≡ Some (entry.Answered (record { to = key; reply = reply }))
unfolding entry_under
answered_told key reply h = rw (reply_back reply h) refl

placed_told : (key : Key) → entry_under (codes "O") key [] ≡ Some (entry.Placed key)
unfolding entry_under
placed_told key = refl

version_told : (v : Version) → version_of_words (version_word v ∷ []) ≡ Some (entry.Version v)
unfolding version_of_words
version_told One = refl
version_told Two = refl

-- members can have their weights
may_weigh : (ws : List ℕ) → IsMembers ws → are_weights ws ≡ true
may_weigh ws h = rw (lt-ltb 0 (length ws) h.some, le-leb (length ws) 7 h.few, h.each) refl

pub weighted_told : (ws : List ℕ) → IsMembers ws → weighted ws ≡ Some (entry.Weights ws)
unfolding weighted
weighted_told ws h = rw (may_weigh ws h) refl

weights_told : (ws : List ℕ) → IsMembers ws → weights_of (map decimal ws) ≡ Some (entry.Weights ws)
unfolding weights_of
weights_told ws h = rw (numbers_back [] ws (short_weights ws h)) (weighted_told ws h)

members_told : (n : ℕ) → 0 < n → n ≤ 7 → members_of_words (decimal n ∷ []) ≡ Some (entry.Members n)
unfolding members_of_words
members_told n some few = rw (long_back n (omega arith), lt-ltb 0 n some, le-leb n 7 few) refl

entry_told : (e : Entry) → IsEntryValue e → entry_of_words (first_word e ∷ other_words e) ≡ Some e
unfolding entry_of_words
entry_told (entry.Version v) h = version_told v
entry_told (entry.Members n) h = members_told n h.0 h.1
entry_told (entry.Weights ws) h = weights_told ws h
entry_told (entry.Submitted c) h = keyed_told (codes "S") c.key (act_words c.act) _ h.0 (submitted_told c.key c.act h.1 h.2)
entry_told (entry.Answered a) h = keyed_told (codes "A") a.to (reply_words a.reply) _ h.0 (answered_told a.to a.reply h.1)
entry_told (entry.Placed key) h = keyed_told (codes "O") key [] _ h (placed_told key)
entry_told entry.End h = refl

-- the words of a line that was written tell what it says
pub said_told : (e : Entry) → IsEntryValue e → entry_of_words (words (said e)) ≡ Some e
said_told e h = ap entry_of_words
    (words_back (first_word e) (other_words e) (first_plain e) (others_plain e h) (first_some e) (others_some e h)) ∙
    entry_told e h

-- ---- where a line ends

pub feeds : (xs ys : List ℕ) → NoFeed xs → NoFeed ys → NoFeed (xs ++ ys)
feeds [] ys h k = k
feeds (x ∷ xs) ys h k = (h.0, feeds xs ys h.1 k)

pub plain_no_feed : (word : List ℕ) → Plain word → NoFeed word
plain_no_feed [] h = tt
plain_no_feed (b ∷ word) h = (h.0.1, plain_no_feed word h.1)

pub spaced_no_feed : (ws : List (List ℕ)) → AllPlain ws → NoFeed (spaced ws)
spaced_no_feed [] h = tt
spaced_no_feed (w ∷ ws) h = ((λ same. omega arith), feeds w (spaced ws) (plain_no_feed w h.0) (spaced_no_feed ws h.1))

pub said_no_feed : (e : Entry) → IsEntryValue e → NoFeed (said e)
said_no_feed e h = feeds (first_word e) (spaced (other_words e)) (plain_no_feed (first_word e) (first_plain e))
    (spaced_no_feed (other_words e) (others_plain e h))

pub one_cut : (a b x y : List ℕ) → NoFeed a → NoFeed b → a ++ (10 ∷ x) ≡ b ++ (10 ∷ y) → (a ≡ b) × (x ≡ y)
one_cut [] [] x y h k same = let rest : x ≡ y = cc in (refl, rest)
one_cut [] (b ∷ bs) x y h k same = let first : b ≡ 10 = cc in absurd (k.0 first)
one_cut (a ∷ as') [] x y h k same = let first : a ≡ 10 = cc in absurd (h.0 first)
one_cut (a ∷ as') (b ∷ bs) x y h k same =
    let rest : as' ++ (10 ∷ x) ≡ bs ++ (10 ∷ y) = cc in
    let first : a ≡ b = cc in
    let t = one_cut as' bs x y h.1 k.1 rest in
    let words : as' ≡ bs = t.0 in
    (cc, t.1)

-- two lines of one text are one line
pub one_front : (e f : Entry) (x y : List ℕ) → IsEntryValue e → IsEntryValue f → entry_line e ++ x ≡ entry_line f ++ y → (e ≡ f) × (x ≡ y)
one_front e f x y h k same =
    let left = ap (λ t. t ++ x) (line_is e) ∙ append_assoc (said e) (10 ∷ []) x in
    let right = ap (λ t. t ++ y) (line_is f) ∙ append_assoc (said f) (10 ∷ []) y in
    let cut = one_cut (said e) (said f) x y (said_no_feed e h) (said_no_feed f k) (sym left ∙ same ∙ right) in
    (some_same (sym (said_told e h) ∙ ap (λ t. entry_of_words (words t)) cut.0 ∙ said_told f k), cut.1)
  where
    some_same : {e f : Entry} → Some e ≡ Some f → e ≡ f
    some_same same = cc

-- the line and its feed are two bytes at least
pub line_long : (e : Entry) → 2 ≤ length (entry_line e)
line_long e = omega (arith, ap length (line_is e), length-append (said e) (10 ∷ []), said_some e)
  where
    said_some : (e : Entry) → 1 ≤ length (said e)
    said_some (entry.Version v) = omega arith
    said_some (entry.Members n) = omega arith
    said_some (entry.Weights ws) = omega arith
    said_some (entry.Submitted c) = omega arith
    said_some (entry.Answered a) = omega arith
    said_some (entry.Placed key) = omega arith
    said_some entry.End = omega arith
