-- What the words of a line tell is what was written.
use Rattle.std.proofs.Common.{◌≡◌, ℕ, ◌<◌, ◌^◌, ◌/◌, ◌%◌, ◌==◌, ◌&&◌, inl, inr, Bool, true, false, slice_index, List}
use Rattle.std.proofs.Common.{[], ◌∷◌, ◌++◌, map, Some, None, Ok, length, refl, sym, ap, ◌∙◌, arith, codes, decimal}
use Rattle.std.proofs.Common.{append-nil, append_assoc}
use Rattle.std.proofs.lemmas.Bool.{lt-ltb}
use Rattle.std.proofs.lemmas.Fmt.{decimal_is_IsNumeral}
use Rattle.std.proofs.lemmas.Str.Parse.{IsNumeralModel, numerals_by_value, tells_all_ascii_digits}
use Rattle.std.specs.List.{AllByRecursion}
use Rattle.std.specs.Str.{all_ascii_digits, bytes_eq}
use Rattle.std.specs.Str.Parse.{digits_value}
use Rattle.hex.specs.Hex.{IsBytes, encode_lower, encode_with, lower_digits, decode_of}
use Rattle.hex.proofs.HexLemmas.{decode_of-encode_lower}
use Rattle.object.specs.declared.command.Act.{Act}
use Rattle.object.specs.declared.command.Act.TheVariants.{Do, Close, Tick}
use Rattle.bean_words.specs.Names.{IsName}
use Rattle.bean_words.specs.declared.op.Op.{Op}
use Rattle.bean_words.specs.declared.op.Op.TheVariants.{Put, Use, Watch, Ignore, Reserve, Delete, Touch, Release, Bury}
use Rattle.bean_words.specs.declared.op.Op.TheVariants.{Kick, KickJob, Peek, PeekReady, PeekDelayed, PeekBuried}
use Rattle.bean_words.specs.declared.op.Op.TheVariants.{ListTubes, ListTubeUsed, ListTubesWatched, Pause}
use Rattle.bean_words.specs.declared.op.Op.TheVariants.{ReserveJob, StatsJob, StatsTube, Stats}
use Rattle.bean_words.specs.declared.reply.Reply.{Reply}
use Rattle.bean_words.specs.declared.reply.Reply.TheVariants.{Inserted, Using, Watching, NotIgnored, Reserved}
use Rattle.bean_words.specs.declared.reply.Reply.TheVariants.{DeadlineSoon, TimedOut, Deleted, NotFound, Released}
use Rattle.bean_words.specs.declared.reply.Reply.TheVariants.{Buried, Touched, KickedCount, Kicked, Found, Tubes}
use Rattle.bean_words.specs.declared.reply.Reply.TheVariants.{Paused, Data, InternalError}
use Rattle.bean_codec.specs.Arguments.{line_of, alone, one_id, one_number, one_name, release_line, bury_line}
use Rattle.bean_codec.specs.Arguments.{reserve_line, kick_line, delete_line, touch_line, kick_job_line, peek_line}
use Rattle.bean_codec.specs.Arguments.{use_line, watch_line, ignore_line, pause_line, reserve_job_line, stats_job_line}
use Rattle.bean_codec.specs.Arguments.{stats_tube_line}
use Rattle.bean_codec.specs.Commands.{command_of, plain_command, job_command, tube_command, look_command, stats_command}
use Rattle.bean_codec.specs.Numbers.{number_below, u32_of, u64_of}
use Rattle.bean_codec.specs.TubeNames.{name_of, name_rule, word_if, Decided}
use Rattle.chronicle_text.specs.Acts.{op_words, act_words}
use Rattle.chronicle_text.specs.Lines.{body_word}
use Rattle.chronicle_text.specs.Replies.{reply_words}
use Rattle.chronicle_text.specs.Values.{IsShort, IsLong, IsActValue, IsReplyValue}
use Rattle.chronicle_text.specs.Told.{body_of, put_of, act_with, act_of, lone_reply, number_reply, reply_with, job_with}
use Rattle.chronicle_text.specs.Told.{job_reply, names_after, other_reply, reply_of, numbers_after}

-- ---- numbers

below_back : (limit n : ℕ) (word : List ℕ) → 0 < length word → all_ascii_digits word ≡ true → digits_value 10 word ≡ n
    → n < limit → number_below limit word ≡ Some n
unfolding number_below
below_back limit n [] some digits value below = absurd (omega arith)
below_back limit n (b ∷ rest) some digits value below = rw (digits, value, lt-ltb n limit below) refl

numerals : IsNumeralModel (λ ds. all_ascii_digits ds ≡ true) (digits_value 10)
numerals = numerals_by_value _ tells_all_ascii_digits

number_back : (limit n : ℕ) → n < 2 ^ 64 → n < limit → number_below limit (decimal n) ≡ Some n
number_back limit n fits below =
    let numeral = decimal_is_IsNumeral n fits in
    below_back limit n (decimal n) numeral.0.0 (numerals.from (decimal n) numeral.0.1) numeral.1 below

pub long_back : (n : ℕ) → IsLong n → u64_of (decimal n) ≡ Some n
long_back n h = number_back (2 ^ 64) n h h

pub short_back : (n : ℕ) → IsShort n → u32_of (decimal n) ≡ Some n
short_back n h = number_back (2 ^ 32) n (omega arith) h

pub numbers_back : (taken numbers : List ℕ) → AllByRecursion IsShort numbers → numbers_after taken (map decimal numbers) ≡ Some (taken ++ numbers)
numbers_back taken [] h = ap Some (sym (append-nil taken))
numbers_back taken (n ∷ numbers) h =
    rw (short_back n h.0) (numbers_back (taken ++ (n ∷ [])) numbers h.1 ∙ ap Some (append_assoc taken (n ∷ []) numbers))

-- ---- names

ruled : (word : List ℕ) (d : Decided (IsName word)) → IsName word → word_if word d ≡ Some word
ruled word (inl holds) h = refl
ruled word (inr fails) h = absurd (fails h)

pub name_back : (word : List ℕ) → IsName word → name_of word ≡ Some word
unfolding name_of
name_back word h = ruled word (name_rule word) h

names_back : (taken names : List (List ℕ)) → AllByRecursion IsName names → names_after taken names ≡ Some (taken ++ names)
names_back taken [] h = ap Some (sym (append-nil taken))
names_back taken (name ∷ names) h =
    rw (name_back name h.0) (names_back (taken ++ (name ∷ [])) names h.1 ∙ ap Some (append_assoc taken (name ∷ []) names))

-- ---- bodies

no_both : (b : Bool) → (b && false) ≡ false
no_both true = refl
no_both false = refl

longer : (c d : ℕ) (word : List ℕ) → bytes_eq (c ∷ d ∷ word) (codes "-") ≡ false
longer c d word = no_both (c == 45)

decodes : (word bytes : List ℕ) → bytes_eq word (codes "-") ≡ false → decode_of word ≡ Ok bytes → body_of word ≡ Some bytes
unfolding body_of
decodes word bytes other same = rw (other, same) refl

pub body_back : (bytes : List ℕ) → IsBytes bytes → body_of (body_word bytes) ≡ Some bytes
unfolding body_of body_word encode_with
body_back [] h = refl
body_back (b ∷ more) h =
    decodes (encode_lower (b ∷ more)) (b ∷ more)
    (longer (slice_index lower_digits (b / 16)) (slice_index lower_digits (b % 16)) (encode_lower more))
    (decode_of-encode_lower (b ∷ more) h)

-- ---- acts

pub act_back : (a : Act Op) → IsActValue a → act_of (act_words a) ≡ Some a
unfolding act_of act_words op_words act_with put_of command_of plain_command job_command tube_command look_command
    stats_command line_of alone one_id one_number one_name release_line bury_line reserve_line kick_line delete_line
    touch_line kick_job_line peek_line use_line watch_line ignore_line pause_line reserve_job_line stats_job_line
    stats_tube_line
act_back Close h = refl
act_back Tick h = refl
act_back (Do (Put pri delay ttr b)) h = rw (short_back pri h.0, short_back delay h.1, short_back ttr h.2, body_back b h.3) refl
act_back (Do (Use tube)) h = rw (name_back tube h) refl
act_back (Do (Watch tube)) h = rw (name_back tube h) refl
act_back (Do (Ignore tube)) h = rw (name_back tube h) refl
act_back (Do (Reserve None)) h = refl
act_back (Do (Reserve (Some seconds))) h = rw (short_back seconds h) refl
act_back (Do (Delete id)) h = rw (long_back id h) refl
act_back (Do (Touch id)) h = rw (long_back id h) refl
act_back (Do (Release id pri delay)) h = rw (long_back id h.0, short_back pri h.1, short_back delay h.2) refl
act_back (Do (Bury id pri)) h = rw (long_back id h.0, short_back pri h.1) refl
act_back (Do (Kick bound)) h = rw (short_back bound h) refl
act_back (Do (KickJob id)) h = rw (long_back id h) refl
act_back (Do (Peek id)) h = rw (long_back id h) refl
act_back (Do PeekReady) h = refl
act_back (Do PeekDelayed) h = refl
act_back (Do PeekBuried) h = refl
act_back (Do ListTubes) h = refl
act_back (Do ListTubeUsed) h = refl
act_back (Do ListTubesWatched) h = refl
act_back (Do (Pause tube seconds)) h = rw (short_back seconds h.1, name_back tube h.0) refl
act_back (Do (ReserveJob id)) h = rw (long_back id h) refl
act_back (Do (StatsJob id)) h = rw (long_back id h) refl
act_back (Do (StatsTube tube)) h = rw (name_back tube h) refl
act_back (Do Stats) h = refl

-- ---- replies

pub reply_back : (r : Reply) → IsReplyValue r → reply_of (reply_words r) ≡ Some r
unfolding reply_of reply_words lone_reply number_reply reply_with job_with job_reply other_reply
reply_back (Inserted id) h = rw (long_back id h) refl
reply_back (Using tube) h = rw (name_back tube h) refl
reply_back (Watching count) h = rw (long_back count h) refl
reply_back NotIgnored h = refl
reply_back (Reserved id b) h = rw (long_back id h.0, body_back b h.1) refl
reply_back DeadlineSoon h = refl
reply_back TimedOut h = refl
reply_back Deleted h = refl
reply_back NotFound h = refl
reply_back Released h = refl
reply_back Buried h = refl
reply_back Touched h = refl
reply_back (KickedCount count) h = rw (long_back count h) refl
reply_back Kicked h = refl
reply_back (Found id b) h = rw (long_back id h.0, body_back b h.1) refl
reply_back (Tubes names) h = rw (names_back [] names h) refl
reply_back (Data text) h = rw (body_back text h) refl
reply_back Paused h = refl
reply_back InternalError h = refl
