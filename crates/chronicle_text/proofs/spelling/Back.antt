-- The words for an act or a reply are plain, and tell which it is.
use Rattle.std.proofs.Common.{◌≡◌, ℕ, zero, suc, ◌<◌, ◌/◌, ◌%◌, inl, inr, List, [], ◌∷◌, slice_index, Some, None}
use Rattle.std.proofs.Common.{Result, Ok, Err, bytes_eq, refl, sym, ap, ap₂, subst, arith, codes, decimal}
use Rattle.std.specs.Prelude.{if◌then◌else◌}
use Rattle.std.proofs.lemmas.Fmt.{decimal_is_IsNumeral}
use Rattle.std.specs.List.{AllByRecursion}
use Rattle.std.specs.Str.Parse.{AllDigits, digits_value}
use Rattle.std.specs.Char.{digit_value}
use Rattle.hex.specs.Hex.{IsBytes, encode_lower, encode_with, decode_of, lower_digits}
use Rattle.hex.proofs.HexLemmas.{decode_of-encode_lower}
use Rattle.object.specs.Lists.{In}
use Rattle.object.specs.declared.command.Act.{Act}
use Rattle.object.specs.declared.command.Act.TheVariants.{Do, Close, Tick}
use Rattle.bean_words.specs.Names.{IsName, IsNameByte, AreNameBytes}
use Rattle.bean_words.specs.declared.op.Op.{Op}
use Rattle.bean_words.specs.declared.op.Op.TheVariants.{Put, Use, Watch, Ignore, Reserve, Delete, Touch, Release, Bury}
use Rattle.bean_words.specs.declared.op.Op.TheVariants.{Kick, KickJob, Peek, PeekReady, PeekDelayed, PeekBuried}
use Rattle.bean_words.specs.declared.op.Op.TheVariants.{ListTubes, ListTubeUsed, ListTubesWatched, Pause}
use Rattle.bean_words.specs.declared.op.Op.TheVariants.{ReserveJob, StatsJob, StatsTube, Stats}
use Rattle.bean_words.specs.declared.reply.Reply.{Reply}
use Rattle.bean_words.specs.declared.reply.Reply.TheVariants.{Inserted, Using, Watching, NotIgnored, Reserved}
use Rattle.bean_words.specs.declared.reply.Reply.TheVariants.{DeadlineSoon, TimedOut, Deleted, NotFound, Released}
use Rattle.bean_words.specs.declared.reply.Reply.TheVariants.{Buried, Touched, KickedCount, Kicked, Found, Tubes}
use Rattle.bean_words.specs.declared.reply.Reply.TheVariants.{Paused, Data, InternalError}
use Rattle.chronicle_text.specs.Acts.{op_words, act_words}
use Rattle.chronicle_text.specs.Fits.{FitsAct}
use Rattle.chronicle_text.specs.Lines.{body_word}
use Rattle.chronicle_text.specs.Replies.{reply_words}
use Rattle.chronicle_text.specs.Values.{IsLong, IsReplyValue}
use Rattle.chronicle_text.proofs.spelling.Words.{IsPlain, Plain, AllPlain, by_test}

-- ---- numbers

-- the number that the digits write
abbrev pub number : List ℕ → ℕ
number word = digits_value 10 word

pub number_back : (n : ℕ) → IsLong n → number (decimal n) ≡ n
number_back n fits = (decimal_is_IsNumeral n fits).1

digit_plain : (b : ℕ) → digit_value b < 10 → IsPlain b
digit_plain b digit = (
  (λ same. let h : digit_value 32 < 10 = subst (λ (c : ℕ). digit_value c < 10) same digit in absurd (omega arith)),
  (λ same. let h : digit_value 10 < 10 = subst (λ (c : ℕ). digit_value c < 10) same digit in absurd (omega arith)),
)

digits_plain : (word : List ℕ) → AllDigits 10 word → Plain word
digits_plain [] h = tt
digits_plain (b ∷ word) h = (digit_plain b h.0, digits_plain word h.1)

pub number_plain : (n : ℕ) → IsLong n → Plain (decimal n)
number_plain n fits = digits_plain (decimal n) (decimal_is_IsNumeral n fits).0.1

-- ---- names

in_plain : (b : ℕ) (word : List ℕ) → Plain word → In b word → IsPlain b
in_plain b [] h i = absurd i
in_plain b (c ∷ word) h (inl same) = subst IsPlain (sym same) h.0
in_plain b (c ∷ word) h (inr more) = in_plain b word h.1 more

name_byte_plain : (b : ℕ) → IsNameByte b → IsPlain b
name_byte_plain b (inl h) = ((λ same. omega arith), (λ same. omega arith))
name_byte_plain b (inr (inl h)) = ((λ same. omega arith), (λ same. omega arith))
name_byte_plain b (inr (inr (inl h))) = ((λ same. omega arith), (λ same. omega arith))
name_byte_plain b (inr (inr (inr h))) = in_plain b (codes "-+/;.$_()") (by_test (codes "-+/;.$_()") refl) h

name_bytes_plain : (word : List ℕ) → AreNameBytes word → Plain word
name_bytes_plain [] h = tt
name_bytes_plain (b ∷ word) h = (name_byte_plain b (h b (inl refl)), name_bytes_plain word (λ c i. h c (inr i)))

pub name_plain : (word : List ℕ) → IsName word → Plain word
name_plain word h = name_bytes_plain word h.bytes

names_plain : (names : List (List ℕ)) → AllByRecursion IsName names → AllPlain names
names_plain [] h = tt
names_plain (name ∷ names) h = (name_plain name h.0, names_plain names h.1)

-- ---- bodies

-- what was decoded
abbrev decoded : {E : Type 0} → Result (List ℕ) E → List ℕ
decoded (Ok bytes) = bytes
decoded (Err e) = []

-- the body that the word writes
abbrev pub body : List ℕ → List ℕ
body [] = []
body (b ∷ []) = []
body (b ∷ c ∷ word) = decoded (decode_of (b ∷ c ∷ word))

pub body_back : (bytes : List ℕ) → IsBytes bytes → body (body_word bytes) ≡ bytes
unfolding body_word encode_with
body_back [] h = refl
body_back (b ∷ more) h = ap decoded (decode_of-encode_lower (b ∷ more) h)

at_plain : (table : List ℕ) (k : ℕ) → Plain table → IsPlain (slice_index table k)
at_plain [] k h = ((λ same. omega arith), (λ same. omega arith))
at_plain (b ∷ table) zero h = h.0
at_plain (b ∷ table) (suc k) h = at_plain table k h.1

pub hex_plain : (bytes : List ℕ) → Plain (encode_lower bytes)
unfolding encode_with
hex_plain [] = tt
hex_plain (b ∷ more) =
    (at_plain lower_digits (b / 16) (by_test lower_digits refl), (at_plain lower_digits (b % 16) (by_test lower_digits refl), hex_plain more))

pub body_plain : (bytes : List ℕ) → Plain (body_word bytes)
unfolding body_word
body_plain [] = by_test (codes "-") refl
body_plain (b ∷ more) = hex_plain (b ∷ more)

-- ---- acts

abbrev alone : List ℕ → Act Op
alone word =
    if bytes_eq word (codes "close") then Close
    else if bytes_eq word (codes "tick") then Tick
    else if bytes_eq word (codes "reserve") then Do (Reserve None)
    else if bytes_eq word (codes "peek-ready") then Do PeekReady
    else if bytes_eq word (codes "peek-delayed") then Do PeekDelayed
    else if bytes_eq word (codes "peek-buried") then Do PeekBuried
    else if bytes_eq word (codes "list-tubes") then Do ListTubes
    else if bytes_eq word (codes "list-tube-used") then Do ListTubeUsed
    else if bytes_eq word (codes "stats") then Do Stats
    else Do ListTubesWatched

abbrev with_one : List ℕ → List ℕ → Op
with_one word a =
    if bytes_eq word (codes "use") then Use a
    else if bytes_eq word (codes "watch") then Watch a
    else if bytes_eq word (codes "ignore") then Ignore a
    else if bytes_eq word (codes "reserve-with-timeout") then Reserve (Some (number a))
    else if bytes_eq word (codes "delete") then Delete (number a)
    else if bytes_eq word (codes "touch") then Touch (number a)
    else if bytes_eq word (codes "kick") then Kick (number a)
    else if bytes_eq word (codes "kick-job") then KickJob (number a)
    else if bytes_eq word (codes "reserve-job") then ReserveJob (number a)
    else if bytes_eq word (codes "stats-job") then StatsJob (number a)
    else if bytes_eq word (codes "stats-tube") then StatsTube a
    else Peek (number a)

abbrev with_two : List ℕ → List ℕ → List ℕ → Op
with_two word a b = if bytes_eq word (codes "pause-tube") then Pause a (number b) else Bury (number a) (number b)

-- the act that the words tell, if they tell one
abbrev pub act : List (List ℕ) → Act Op
act [] = Tick
act (word ∷ []) = alone word
act (word ∷ a ∷ []) = Do (with_one word a)
act (word ∷ a ∷ b ∷ []) = Do (with_two word a b)
act (word ∷ a ∷ b ∷ c ∷ []) = Do (Release (number a) (number b) (number c))
act (word ∷ a ∷ b ∷ c ∷ d ∷ more) = Do (Put (number a) (number b) (number c) (body d))

pub act_back : (a : Act Op) → FitsAct a → act (act_words a) ≡ a
unfolding act_words op_words
act_back Close h = refl
act_back Tick h = refl
act_back (Do (Put pri delay ttr b)) h =
    let p = number_back pri h.0 in let d = number_back delay h.1 in let t = number_back ttr h.2 in let e = body_back b h.3 in cc
act_back (Do (Use tube)) h = refl
act_back (Do (Watch tube)) h = refl
act_back (Do (Ignore tube)) h = refl
act_back (Do (Reserve None)) h = refl
act_back (Do (Reserve (Some seconds))) h = ap (λ n. Do (Reserve (Some n))) (number_back seconds h)
act_back (Do (Delete id)) h = ap (λ n. Do (Delete n)) (number_back id h)
act_back (Do (Touch id)) h = ap (λ n. Do (Touch n)) (number_back id h)
act_back (Do (Release id pri delay)) h =
    let i = number_back id h.0 in let p = number_back pri h.1 in let d = number_back delay h.2 in cc
act_back (Do (Bury id pri)) h = let i = number_back id h.0 in let p = number_back pri h.1 in cc
act_back (Do (Kick bound)) h = ap (λ n. Do (Kick n)) (number_back bound h)
act_back (Do (KickJob id)) h = ap (λ n. Do (KickJob n)) (number_back id h)
act_back (Do (Peek id)) h = ap (λ n. Do (Peek n)) (number_back id h)
act_back (Do PeekReady) h = refl
act_back (Do PeekDelayed) h = refl
act_back (Do PeekBuried) h = refl
act_back (Do ListTubes) h = refl
act_back (Do ListTubeUsed) h = refl
act_back (Do ListTubesWatched) h = refl
act_back (Do (Pause tube seconds)) h = ap (λ n. Do (Pause tube n)) (number_back seconds h.1)
act_back (Do (ReserveJob id)) h = ap (λ n. Do (ReserveJob n)) (number_back id h)
act_back (Do (StatsJob id)) h = ap (λ n. Do (StatsJob n)) (number_back id h)
act_back (Do (StatsTube tube)) h = refl
act_back (Do Stats) h = refl

pub act_plain : (a : Act Op) → FitsAct a → AllPlain (act_words a)
unfolding act_words op_words
act_plain Close h = (by_test (codes "close") refl, tt)
act_plain Tick h = (by_test (codes "tick") refl, tt)
act_plain (Do (Put pri delay ttr b)) h =
    (by_test (codes "put") refl, (number_plain pri h.0, (number_plain delay h.1, (number_plain ttr h.2, (body_plain b, tt)))))
act_plain (Do (Use tube)) h = (by_test (codes "use") refl, (name_plain tube h, tt))
act_plain (Do (Watch tube)) h = (by_test (codes "watch") refl, (name_plain tube h, tt))
act_plain (Do (Ignore tube)) h = (by_test (codes "ignore") refl, (name_plain tube h, tt))
act_plain (Do (Reserve None)) h = (by_test (codes "reserve") refl, tt)
act_plain (Do (Reserve (Some seconds))) h = (by_test (codes "reserve-with-timeout") refl, (number_plain seconds h, tt))
act_plain (Do (Delete id)) h = (by_test (codes "delete") refl, (number_plain id h, tt))
act_plain (Do (Touch id)) h = (by_test (codes "touch") refl, (number_plain id h, tt))
act_plain (Do (Release id pri delay)) h =
    (by_test (codes "release") refl, (number_plain id h.0, (number_plain pri h.1, (number_plain delay h.2, tt))))
act_plain (Do (Bury id pri)) h = (by_test (codes "bury") refl, (number_plain id h.0, (number_plain pri h.1, tt)))
act_plain (Do (Kick bound)) h = (by_test (codes "kick") refl, (number_plain bound h, tt))
act_plain (Do (KickJob id)) h = (by_test (codes "kick-job") refl, (number_plain id h, tt))
act_plain (Do (Peek id)) h = (by_test (codes "peek") refl, (number_plain id h, tt))
act_plain (Do PeekReady) h = (by_test (codes "peek-ready") refl, tt)
act_plain (Do PeekDelayed) h = (by_test (codes "peek-delayed") refl, tt)
act_plain (Do PeekBuried) h = (by_test (codes "peek-buried") refl, tt)
act_plain (Do ListTubes) h = (by_test (codes "list-tubes") refl, tt)
act_plain (Do ListTubeUsed) h = (by_test (codes "list-tube-used") refl, tt)
act_plain (Do ListTubesWatched) h = (by_test (codes "list-tubes-watched") refl, tt)
act_plain (Do (Pause tube seconds)) h = (by_test (codes "pause-tube") refl, (name_plain tube h.0, (number_plain seconds h.1, tt)))
act_plain (Do (ReserveJob id)) h = (by_test (codes "reserve-job") refl, (number_plain id h, tt))
act_plain (Do (StatsJob id)) h = (by_test (codes "stats-job") refl, (number_plain id h, tt))
act_plain (Do (StatsTube tube)) h = (by_test (codes "stats-tube") refl, (name_plain tube h, tt))
act_plain (Do Stats) h = (by_test (codes "stats") refl, tt)

-- ---- replies

abbrev said : List ℕ → Reply
said word =
    if bytes_eq word (codes "NOT_IGNORED") then NotIgnored
    else if bytes_eq word (codes "DEADLINE_SOON") then DeadlineSoon
    else if bytes_eq word (codes "TIMED_OUT") then TimedOut
    else if bytes_eq word (codes "DELETED") then Deleted
    else if bytes_eq word (codes "NOT_FOUND") then NotFound
    else if bytes_eq word (codes "RELEASED") then Released
    else if bytes_eq word (codes "BURIED") then Buried
    else if bytes_eq word (codes "TOUCHED") then Touched
    else if bytes_eq word (codes "KICKED") then Kicked
    else if bytes_eq word (codes "PAUSED") then Paused
    else InternalError

abbrev said_with : List ℕ → List ℕ → Reply
said_with word a =
    if bytes_eq word (codes "INSERTED") then Inserted (number a)
    else if bytes_eq word (codes "USING") then Using a
    else if bytes_eq word (codes "WATCHING") then Watching (number a)
    else if bytes_eq word (codes "DATA") then Data (body a)
    else KickedCount (number a)

-- the reply that the words tell, but for a list of tubes
abbrev said_all : List ℕ → List (List ℕ) → Reply
said_all word [] = said word
said_all word (a ∷ []) = said_with word a
said_all word (a ∷ b ∷ more) = if bytes_eq word (codes "FOUND") then Found (number a) (body b) else Reserved (number a) (body b)

-- the reply that the words tell, if they tell one
abbrev pub reply : List (List ℕ) → Reply
reply [] = NotFound
reply (word ∷ more) = if bytes_eq word (codes "OK") then Tubes more else said_all word more

pub reply_back : (r : Reply) → IsReplyValue r → reply (reply_words r) ≡ r
unfolding reply_words
reply_back (Inserted id) h = ap Inserted (number_back id h)
reply_back (Using tube) h = refl
reply_back (Watching count) h = ap Watching (number_back count h)
reply_back NotIgnored h = refl
reply_back (Reserved id b) h = ap₂ Reserved (number_back id h.0) (body_back b h.1)
reply_back DeadlineSoon h = refl
reply_back TimedOut h = refl
reply_back Deleted h = refl
reply_back NotFound h = refl
reply_back Released h = refl
reply_back Buried h = refl
reply_back Touched h = refl
reply_back (KickedCount count) h = ap KickedCount (number_back count h)
reply_back Kicked h = refl
reply_back (Found id b) h = ap₂ Found (number_back id h.0) (body_back b h.1)
reply_back (Tubes names) h = refl
reply_back (Data text) h = ap Data (body_back text h)
reply_back Paused h = refl
reply_back InternalError h = refl

pub reply_plain : (r : Reply) → IsReplyValue r → AllPlain (reply_words r)
unfolding reply_words
reply_plain (Inserted id) h = (by_test (codes "INSERTED") refl, (number_plain id h, tt))
reply_plain (Using tube) h = (by_test (codes "USING") refl, (name_plain tube h, tt))
reply_plain (Watching count) h = (by_test (codes "WATCHING") refl, (number_plain count h, tt))
reply_plain NotIgnored h = (by_test (codes "NOT_IGNORED") refl, tt)
reply_plain (Reserved id b) h = (by_test (codes "RESERVED") refl, (number_plain id h.0, (body_plain b, tt)))
reply_plain DeadlineSoon h = (by_test (codes "DEADLINE_SOON") refl, tt)
reply_plain TimedOut h = (by_test (codes "TIMED_OUT") refl, tt)
reply_plain Deleted h = (by_test (codes "DELETED") refl, tt)
reply_plain NotFound h = (by_test (codes "NOT_FOUND") refl, tt)
reply_plain Released h = (by_test (codes "RELEASED") refl, tt)
reply_plain Buried h = (by_test (codes "BURIED") refl, tt)
reply_plain Touched h = (by_test (codes "TOUCHED") refl, tt)
reply_plain (KickedCount count) h = (by_test (codes "KICKED") refl, (number_plain count h, tt))
reply_plain Kicked h = (by_test (codes "KICKED") refl, tt)
reply_plain (Found id b) h = (by_test (codes "FOUND") refl, (number_plain id h.0, (body_plain b, tt)))
reply_plain (Tubes names) h = (by_test (codes "OK") refl, names_plain names h)
reply_plain (Data text) h = (by_test (codes "DATA") refl, (body_plain text, tt))
reply_plain Paused h = (by_test (codes "PAUSED") refl, tt)
reply_plain InternalError h = (by_test (codes "INTERNAL_ERROR") refl, tt)
