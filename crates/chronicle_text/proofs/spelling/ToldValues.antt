-- What the words of a line tell is a value of its type.
use Rattle.std.proofs.Common.{rules, ◌≡◌, ℕ, zero, suc, ◌+◌, ◌-◌, ◌%◌, ◌<◌, ◌≤◌, ◌^◌, ◌&&◌, ◌==◌, inl, inr, Bool, true}
use Rattle.std.proofs.Common.{false, List, [], ◌∷◌, ◌++◌, Option, Some, None, Result, Ok, Err, length, leb, refl, arith}
use Rattle.std.proofs.Common.{codes}
use Rattle.std.proofs.lemmas.Bool.{and_parts, ltb-true, leb-true, eqb-true}
use Rattle.std.specs.List.{AllByRecursion, list_all}
use Rattle.std.specs.Option.{option_map, option_and_then}
use Rattle.std.specs.Prelude.{if◌then◌else◌, nat_lt, nat_le, IfSome, IfOk, ⊤}
use Rattle.std.specs.Str.{bytes_eq}
use Rattle.hex.specs.Hex.{◌>>=◌, IsBytes, decode_of, decode_pairs, pair_value, value_at, digit_or_error, hex_digit_value}
use Rattle.hex.specs.declared.error.FromHexError.{FromHexError}
use Rattle.hex.specs.declared.error.FromHexError.TheVariants.{OddLength}
use Rattle.ballot.specs.Members.{IsMembers, is_weight}
use Rattle.object.specs.Commands.{IsCommand, MayAsk}
use Rattle.object.specs.declared.command.Act.{Act}
use Rattle.object.specs.declared.command.Act.TheVariants.{Do, Close, Tick}
use Rattle.object.specs.declared.command.Key.{Key}
use Rattle.bean_words.specs.Names.{IsName}
use Rattle.bean_words.specs.declared.op.Op.{Op}
use Rattle.bean_words.specs.declared.reply.Reply.{Reply}
use Rattle.bean_words.specs.declared.reply.Reply.TheVariants.{Using, Reserved, Found, Tubes, Data}
use Rattle.bean_words.specs.declared.op.Op.TheVariants as op
use Rattle.bean_codec.specs.declared.profile.Profile.TheVariants.{Extended}
use Rattle.bean_codec.specs.declared.command.CommandName.{CommandName}
use Rattle.bean_codec.specs.declared.command.CommandName.TheVariants as command
use Rattle.bean_codec.specs.declared.line.Meaning.{Meaning}
use Rattle.bean_codec.specs.declared.line.Meaning.TheVariants.{Whole, WithBody}
use Rattle.bean_codec.specs.declared.request.Request.TheVariants as request
use Rattle.bean_codec.specs.declared.request.Request.{Request}
use Rattle.bean_codec.specs.Arguments.{line_of, alone, one_id, one_number, one_name, put_line, release_line, bury_line}
use Rattle.bean_codec.specs.Arguments.{reserve_line, kick_line, delete_line, touch_line, kick_job_line, peek_line}
use Rattle.bean_codec.specs.Arguments.{use_line, watch_line, ignore_line, pause_line, reserve_job_line, stats_job_line}
use Rattle.bean_codec.specs.Arguments.{stats_tube_line}
use Rattle.bean_codec.specs.Commands.{command_of}
use Rattle.bean_codec.specs.Numbers.{written_number, number_below, u32_of, u64_of}
use Rattle.bean_codec.specs.TubeNames.{name_of, name_rule, word_if, Decided}
use Rattle.chronicle_text.specs.declared.entry.Entry.{Entry}
use Rattle.chronicle_text.specs.declared.entry.Entry.TheVariants as entry
use Rattle.chronicle_text.specs.declared.version.Version.TheVariants.{One, Two}
use Rattle.chronicle_text.specs.Entries.{IsEntryValue}
use Rattle.chronicle_text.specs.Values.{IsShort, IsLong, IsKeyValue, IsOpValue, IsActValue, IsReplyValue}
use Rattle.chronicle_text.specs.Told.{decoded, body_of, put_of, act_in, act_with, act_of, lone_reply, number_reply}
use Rattle.chronicle_text.specs.Told.{reply_with, job_with, job_reply, names_after, other_reply, reply_of, may_ask}
use Rattle.chronicle_text.specs.Told.{submitted_of, entry_under, key_of, keyed_entry, version_of_words, members_of_words}
use Rattle.chronicle_text.specs.Told.{are_weights, weighted, numbers_after, weights_of, entry_of_words}

-- ---- steps

bind : {A B : Type 0} (o : Option A) (f : A → Option B) (P : A → Type 0) (Q : B → Type 0) → IfSome o P
    → ((a : A) → P a → IfSome (f a) Q) → IfSome (option_and_then f o) Q
bind None f P Q h k = tt
bind (Some a) f P Q h k = k a h

mapped : {A B : Type 0} (o : Option A) (f : A → B) (P : A → Type 0) (Q : B → Type 0) → IfSome o P → ((a : A) → P a → Q (f a)) → IfSome (option_map f o) Q
mapped None f P Q h k = tt
mapped (Some a) f P Q h k = k a h

either : {B : Type 0} (t : Bool) (x y : Option B) (Q : B → Type 0) → IfSome x Q → IfSome y Q → IfSome (if t then x else y) Q
either true x y Q h k = h
either false x y Q h k = k

pub where_so : {B : Type 0} (t : Bool) (x : B) (Q : B → Type 0) → (t ≡ true → Q x) → IfSome (if t then Some x else None) Q
where_so true x Q h = h refl
where_so false x Q h = tt

-- ---- numbers and names

any : {A : Type 0} (o : Option A) → IfSome o (λ a. ⊤)
any None = tt
any (Some a) = tt

below_value : (limit : ℕ) (word : List ℕ) → IfSome (number_below limit word) (λ n. n < limit)
unfolding number_below
below_value limit word =
    bind (written_number word) (λ n. if nat_lt n limit then Some n else None) (λ n. ⊤) (λ n. n < limit)
    (any (written_number word)) (λ n _. where_so (nat_lt n limit) n (λ m. m < limit) (ltb-true n limit))

short_value : (word : List ℕ) → IfSome (u32_of word) IsShort
short_value word = below_value (2 ^ 32) word

long_value : (word : List ℕ) → IfSome (u64_of word) IsLong
long_value word = below_value (2 ^ 64) word

ruled : (word : List ℕ) (d : Decided (IsName word)) → IfSome (word_if word d) IsName
ruled word (inl holds) = holds
ruled word (inr fails) = tt

name_value : (word : List ℕ) → IfSome (name_of word) IsName
unfolding name_of
name_value word = ruled word (name_rule word)

one_more : (names : List (List ℕ)) (name : List ℕ) → AllByRecursion IsName names → IsName name → AllByRecursion IsName (names ++ (name ∷ []))
one_more [] name h k = (k, tt)
one_more (n ∷ names) name h k = (h.0, one_more names name h.1 k)

names_value : (names words : List (List ℕ)) → AllByRecursion IsName names → IfSome (names_after names words) (AllByRecursion IsName)
names_value names [] h = h
names_value names (word ∷ words) h =
    bind (name_of word) (λ name. names_after (names ++ (name ∷ [])) words) IsName (AllByRecursion IsName) (name_value word)
    (λ name is. names_value (names ++ (name ∷ [])) words (one_more names name h is))

-- ---- bodies

if_so : {B : Type 0} (t : Bool) (x y : Option B) (Q : B → Type 0) → (t ≡ true → IfSome x Q) → IfSome y Q → IfSome (if t then x else y) Q
if_so true x y Q h k = h refl
if_so false x y Q h k = k

range : (low high c : ℕ) → (leb low c && leb c high) ≡ true → (low ≤ c) × (c ≤ high)
range low high c h =
    let both = and_parts (leb low c) (leb c high) h in (leb-true low c both.0, leb-true c high both.1)

digit_small : (c : ℕ) → IfSome (hex_digit_value c) (λ v. v < 16)
digit_small c =
    if_so (nat_le 65 c && nat_le c 70) (Some (c - 55)) _ (λ v. v < 16) (λ h. let r = range 65 70 c h in omega arith)
    (if_so (nat_le 97 c && nat_le c 102) (Some (c - 87)) _ (λ v. v < 16) (λ h. let r = range 97 102 c h in omega arith)
    (if_so (nat_le 48 c && nat_le c 57) (Some (c - 48)) None (λ v. v < 16) (λ h. let r = range 48 57 c h in omega arith) tt))

bind_ok : {A B : Type 0} (r : Result A FromHexError) (f : A → Result B FromHexError) (P : A → Type 0) (Q : B → Type 0)
    → IfOk r P → ((a : A) → P a → IfOk (f a) Q) → IfOk (r >>= f) Q
bind_ok (Ok a) f P Q h k = k a h
bind_ok (Err e) f P Q h k = tt

of_digit : (c i : ℕ) (o : Option ℕ) → IfSome o (λ v. v < 16) → IfOk (digit_or_error c i o) (λ v. v < 16)
of_digit c i (Some v) h = h
of_digit c i None h = tt

pair_small : (high low i : ℕ) → IfOk (pair_value high low i) (λ b. b < 256)
pair_small high low i =
    bind_ok (value_at high i) _ (λ v. v < 16) (λ b. b < 256) (of_digit high i (hex_digit_value high) (digit_small high))
    (λ h hs. bind_ok (value_at low (i + 1)) _ (λ v. v < 16) (λ b. b < 256) (of_digit low (i + 1) (hex_digit_value low) (digit_small low)) (λ l ls. omega arith))

cons_bytes : (b : ℕ) (bytes : List ℕ) → b < 256 → IsBytes bytes → IsBytes (b ∷ bytes)
cons_bytes b bytes h k zero = h
cons_bytes b bytes h k (suc i) = k i

no_bytes : IsBytes []
no_bytes i = omega arith

pairs_bytes : (i : ℕ) (word : List ℕ) → IfOk (decode_pairs i word) IsBytes
unfolding decode_pairs
pairs_bytes i [] = no_bytes
pairs_bytes i (digit ∷ []) = tt
pairs_bytes i (high ∷ low ∷ rest) =
    bind_ok (pair_value high low i) _ (λ b. b < 256) IsBytes (pair_small high low i)
    (λ b bs. bind_ok (decode_pairs (i + 2) rest) _ IsBytes IsBytes (pairs_bytes (i + 2) rest) (λ bytes h. cons_bytes b bytes bs h))

of_decoded : (r : Result (List ℕ) FromHexError) → IfOk r IsBytes → IfSome (decoded r) IsBytes
of_decoded (Ok bytes) h = h
of_decoded (Err e) h = tt

even_bytes : (t : Bool) (e : FromHexError) (r : Result (List ℕ) FromHexError) → IfOk r IsBytes → IfOk (if t then Err e else r) IsBytes
even_bytes true e r h = tt
even_bytes false e r h = h

body_value : (word : List ℕ) → IfSome (body_of word) IsBytes
unfolding body_of
body_value word =
    either (bytes_eq word (codes "-")) (Some []) (decoded (decode_of word)) IsBytes no_bytes
    (of_decoded (decode_of word) (even_bytes (length word % 2 == 1) OddLength (decode_pairs 0 word)
    (pairs_bytes 0 word)))

-- ---- acts

put_value : (words : List (List ℕ)) → IfSome (put_of words) IsActValue
unfolding put_of
put_value (pri ∷ delay ∷ ttr ∷ body ∷ []) =
    bind (u32_of pri) _ IsShort IsActValue (short_value pri) (λ p ps. bind (u32_of delay) _ IsShort IsActValue (short_value delay)
    (λ d ds. bind (u32_of ttr) _ IsShort IsActValue (short_value ttr)
    (λ t ts. bind (body_of body) _ IsBytes IsActValue (body_value body) (λ b bs. (ps, ds, ts, bs)))))
put_value _ = tt

-- the operation of a request is a value
abbrev Means : Meaning → Type 0
Means (Whole (request.Do op)) = IsOpValue op
Means _ = ⊤

abbrev Asks : Request → Type 0
Asks (request.Do op) = IsOpValue op
Asks _ = ⊤

means : (r : Request) → Asks r → Means (Whole r)
means (request.Do op) h = h
means request.Quit h = tt

alone_value : (r : Request) (words : List (List ℕ)) → Asks r → IfSome (alone r words) Means
unfolding alone
alone_value r [] h = means r h
alone_value r (w ∷ words) h = tt

id_value : (words : List (List ℕ)) → IfSome (one_id words) IsLong
unfolding one_id
id_value (w ∷ []) = long_value w
id_value _ = tt

one_value : (words : List (List ℕ)) → IfSome (one_number words) IsShort
unfolding one_number
one_value (w ∷ []) = short_value w
one_value _ = tt

tube_value : (words : List (List ℕ)) → IfSome (one_name words) IsName
unfolding one_name
tube_value (w ∷ []) = name_value w
tube_value _ = tt

release_value : (words : List (List ℕ)) → IfSome (release_line words) Means
unfolding release_line
release_value (id ∷ pri ∷ delay ∷ []) =
    bind (u64_of id) _ IsLong Means (long_value id)
    (λ i is. bind (u32_of pri) _ IsShort Means (short_value pri)
    (λ p ps. bind (u32_of delay) _ IsShort Means (short_value delay) (λ d ds. (is, ps, ds))))
release_value _ = tt

bury_value : (words : List (List ℕ)) → IfSome (bury_line words) Means
unfolding bury_line
bury_value (id ∷ pri ∷ []) = bind (u64_of id) _ IsLong Means (long_value id) (λ i is. bind (u32_of pri) _ IsShort Means (short_value pri) (λ p ps. (is, ps)))
bury_value _ = tt

numbers_value : (pri delay ttr size : List ℕ) → IfSome (put_line (pri ∷ delay ∷ ttr ∷ size ∷ [])) Means
unfolding put_line
numbers_value pri delay ttr size =
    bind (u32_of pri) _ IsShort Means (short_value pri) (λ p ps. bind (u32_of delay) _ IsShort Means (short_value delay)
    (λ d ds. bind (u32_of ttr) _ IsShort Means (short_value ttr) (λ t ts. bind (u32_of size) _ IsShort Means (short_value size) (λ s ss. tt))))

put_line_value : (words : List (List ℕ)) → IfSome (put_line words) Means
unfolding put_line
put_line_value (pri ∷ delay ∷ ttr ∷ size ∷ []) = numbers_value pri delay ttr size
put_line_value _ = tt

pause_value : (words : List (List ℕ)) → IfSome (pause_line words) Means
unfolding pause_line
pause_value (tube ∷ seconds ∷ []) =
    bind (u32_of seconds) _ IsShort Means (short_value seconds)
    (λ n ns. bind (name_of tube) _ IsName Means (name_value tube) (λ t ts. (ts, ns)))
pause_value _ = tt

line_value : (c : CommandName) (words : List (List ℕ)) → IfSome (line_of c words) Means
unfolding line_of reserve_line kick_line delete_line touch_line kick_job_line peek_line use_line watch_line ignore_line
    reserve_job_line stats_job_line stats_tube_line
line_value command.Put words = put_line_value words
line_value command.Use words = bind (one_name words) _ IsName Means (tube_value words) (λ n h. h)
line_value command.Watch words = bind (one_name words) _ IsName Means (tube_value words) (λ n h. h)
line_value command.Ignore words = bind (one_name words) _ IsName Means (tube_value words) (λ n h. h)
line_value command.Reserve words = alone_value (request.Do (op.Reserve None)) words tt
line_value command.ReserveWithTimeout words = bind (one_number words) _ IsShort Means (one_value words) (λ n h. h)
line_value command.Delete words = bind (one_id words) _ IsLong Means (id_value words) (λ n h. h)
line_value command.Touch words = bind (one_id words) _ IsLong Means (id_value words) (λ n h. h)
line_value command.Release words = release_value words
line_value command.Bury words = bury_value words
line_value command.Kick words = bind (one_number words) _ IsShort Means (one_value words) (λ n h. h)
line_value command.KickJob words = bind (one_id words) _ IsLong Means (id_value words) (λ n h. h)
line_value command.Peek words = bind (one_id words) _ IsLong Means (id_value words) (λ n h. h)
line_value command.PeekReady words = alone_value (request.Do op.PeekReady) words tt
line_value command.PeekDelayed words = alone_value (request.Do op.PeekDelayed) words tt
line_value command.PeekBuried words = alone_value (request.Do op.PeekBuried) words tt
line_value command.ListTubes words = alone_value (request.Do op.ListTubes) words tt
line_value command.ListTubeUsed words = alone_value (request.Do op.ListTubeUsed) words tt
line_value command.ListTubesWatched words = alone_value (request.Do op.ListTubesWatched) words tt
line_value command.PauseTube words = pause_value words
line_value command.Quit words = alone_value request.Quit words tt
line_value command.ReserveJob words = bind (one_id words) _ IsLong Means (id_value words) (λ n h. h)
line_value command.StatsJob words = bind (one_id words) _ IsLong Means (id_value words) (λ n h. h)
line_value command.StatsTube words = bind (one_name words) _ IsName Means (tube_value words) (λ n h. h)
line_value command.Stats words = alone_value (request.Do op.Stats) words tt

act_in_value : (m : Meaning) → Means m → IfSome (act_in m) IsActValue
act_in_value (Whole (request.Do op)) h = h
act_in_value (Whole request.Quit) h = tt
act_in_value (WithBody pri delay ttr size) h = tt

with_value : (c : Option CommandName) (words : List (List ℕ)) → IfSome (act_with c words) IsActValue
unfolding act_with
with_value None words = tt
with_value (Some command.Put) words = put_value words
with_value (Some c) words = bind (line_of c words) act_in Means IsActValue (line_value c words) act_in_value

act_value : (words : List (List ℕ)) → IfSome (act_of words) IsActValue
unfolding act_of
act_value [] = tt
act_value (first ∷ words) =
    either (bytes_eq first (codes "tick")) (Some Tick) _ IsActValue tt
    (either (bytes_eq first (codes "close")) (Some Close) (act_with (command_of Extended first) words) IsActValue tt
    (with_value (command_of Extended first) words))

-- ---- replies

plain_reply : (t : Bool) (r : Reply) (y : Option Reply) → IsReplyValue r → IfSome y IsReplyValue → IfSome (if t then Some r else y) IsReplyValue
plain_reply t r y h k = either t (Some r) y IsReplyValue h k

lone_value : (word : List ℕ) → IfSome (lone_reply word) IsReplyValue
unfolding lone_reply
lone_value word = search (rules, plain_reply)

number_value : (word : List ℕ) (n : ℕ) → IsLong n → IfSome (number_reply word n) IsReplyValue
unfolding number_reply
number_value word n h = search (rules, plain_reply, h)

reply_with_value : (word a : List ℕ) → IfSome (reply_with word a) IsReplyValue
unfolding reply_with
reply_with_value word a =
    either (bytes_eq word (codes "USING")) _ _ IsReplyValue (mapped (name_of a) Using IsName IsReplyValue (name_value a) (λ n h. h))
    (either (bytes_eq word (codes "DATA")) _ _ IsReplyValue (mapped (body_of a) Data IsBytes IsReplyValue (body_value a) (λ b h. h))
    (bind (u64_of a) (number_reply word) IsLong IsReplyValue (long_value a) (number_value word)))

job_with_value : (word : List ℕ) (id : ℕ) (body : List ℕ) → IsLong id → IsBytes body → IfSome (job_with word id body) IsReplyValue
unfolding job_with
job_with_value word id body h k =
    plain_reply (bytes_eq word (codes "RESERVED")) (Reserved id body) (if bytes_eq word (codes "FOUND") then Some (Found id body) else None) (h, k)
    (plain_reply (bytes_eq word (codes "FOUND")) (Found id body) None (h, k) tt)

job_value : (word id body : List ℕ) → IfSome (job_reply word id body) IsReplyValue
unfolding job_reply
job_value word id body =
    bind (u64_of id) _ IsLong IsReplyValue (long_value id)
    (λ i is. bind (body_of body) _ IsBytes IsReplyValue (body_value body) (λ b bs. job_with_value word i b is bs))

other_value : (first : List ℕ) (words : List (List ℕ)) → IfSome (other_reply first words) IsReplyValue
unfolding other_reply
other_value first [] = lone_value first
other_value first (a ∷ []) = reply_with_value first a
other_value first (a ∷ b ∷ more) = job_value first a b

reply_value : (words : List (List ℕ)) → IfSome (reply_of words) IsReplyValue
unfolding reply_of
reply_value [] = tt
reply_value (first ∷ words) =
    either (bytes_eq first (codes "OK")) _ _ IsReplyValue
    (mapped (names_after [] words) Tubes (AllByRecursion IsName) IsReplyValue (names_value [] words tt) (λ n h. h))
    (other_value first words)

-- ---- lines

asks : (key : Key) (act : Act Op) → may_ask key act ≡ true → MayAsk key act
asks key (Do op) h = ltb-true 0 key.session h
asks key Close h = ltb-true 0 key.session h
asks key Tick h =
    let both = and_parts (key.session == 0) (nat_le key.number (2 ^ 40)) h in (eqb-true key.session 0 both.0, leb-true key.number (2 ^ 40) both.1)

is_command : (key : Key) (act : Act Op) → (may_ask key act && nat_lt 0 key.number && nat_le key.number (2 ^ 62)) ≡ true
    → IsCommand (record { key = key; act = act })
is_command key act h =
    let both = and_parts (may_ask key act && nat_lt 0 key.number) (nat_le key.number (2 ^ 62)) h in
    let first = and_parts (may_ask key act) (nat_lt 0 key.number) both.0 in
    record { above = ltb-true 0 key.number first.1; within = leb-true key.number (2 ^ 62) both.1; allowed = asks key act first.0 }

command_value : (key : Key) (act : Act Op) → IsKeyValue key → IsActValue act → IfSome (submitted_of key act) IsEntryValue
unfolding submitted_of
command_value key act h k =
    where_so (may_ask key act && nat_lt 0 key.number && nat_le key.number (2 ^ 62))
    (entry.Submitted (record { key = key; act = act })) IsEntryValue (λ so. (h, k, is_command key act so))

none_where : (t : Bool) (x : Entry) → (t ≡ true → ⊥) → (if t then Some x else None) ≡ None
none_where true x h = absurd (h refl)
none_where false x h = refl

-- a key that may not ask has no command
pub not_asked : (key : Key) (act : Act Op) → (IsCommand (record { key = key; act = act }) → ⊥) → submitted_of key act ≡ None
unfolding submitted_of
not_asked key act h =
    none_where (may_ask key act && nat_lt 0 key.number && nat_le key.number (2 ^ 62))
    (entry.Submitted (record { key = key; act = act })) (λ so. h (is_command key act so))

under_value : (letter : List ℕ) (key : Key) (words : List (List ℕ)) → IsKeyValue key → IfSome (entry_under letter key words) IsEntryValue
unfolding entry_under
under_value letter key words h =
    either (bytes_eq letter (codes "S")) _ _ IsEntryValue
    (bind (act_of words) (submitted_of key) IsActValue IsEntryValue (act_value words)
    (λ a k. command_value key a h k))
    (either (bytes_eq letter (codes "A")) _ _ IsEntryValue
    (mapped (reply_of words) (λ reply. entry.Answered (record { to = key; reply = reply })) IsReplyValue
    IsEntryValue (reply_value words) (λ r k. (h, k)))
    (either (bytes_eq letter (codes "O")) (Some (entry.Placed key)) None IsEntryValue h tt))

key_value : (session number : List ℕ) → IfSome (key_of session number) IsKeyValue
unfolding key_of
key_value session number =
    bind (u32_of session) _ IsShort IsKeyValue (short_value session) (λ s ss. bind (u64_of number) _ IsLong IsKeyValue (long_value number) (λ n ns. (ss, ns)))

keyed_value : (letter : List ℕ) (words : List (List ℕ)) → IfSome (keyed_entry letter words) IsEntryValue
unfolding keyed_entry
keyed_value letter (session ∷ number ∷ words) =
    bind (key_of session number) _ IsKeyValue IsEntryValue (key_value session number)
    (λ key h. under_value letter key words h)
keyed_value letter [] = tt
keyed_value letter (session ∷ []) = tt

version_value : (words : List (List ℕ)) → IfSome (version_of_words words) IsEntryValue
unfolding version_of_words
version_value [] = tt
version_value (word ∷ words) =
    either (bytes_eq word (codes "1")) (Some (entry.Version One)) _ IsEntryValue tt
    (either (bytes_eq word (codes "2")) (Some (entry.Version Two)) None IsEntryValue tt tt)

members_value : (words : List (List ℕ)) → IfSome (members_of_words words) IsEntryValue
unfolding members_of_words
members_value [] = tt
members_value (word ∷ words) =
    bind (u64_of word) _ IsLong IsEntryValue (long_value word)
    (λ n ns. where_so (nat_lt 0 n && nat_le n 7) (entry.Members n) IsEntryValue
    (λ so. let both = and_parts (nat_lt 0 n) (nat_le n 7) so in (ltb-true 0 n both.0, leb-true n 7 both.1)))

are_members : (ws : List ℕ) → are_weights ws ≡ true → IsMembers ws
are_members ws so =
    let both = and_parts (nat_lt 0 (length ws) && nat_le (length ws) 7) (list_all is_weight ws) so in
    let count = and_parts (nat_lt 0 (length ws)) (nat_le (length ws) 7) both.0 in
    record { some = ltb-true 0 (length ws) count.0; few = leb-true (length ws) 7 count.1; each = both.1 }

-- weights that members can not have tell nothing
pub not_weighted : (ws : List ℕ) → (IsMembers ws → ⊥) → weighted ws ≡ None
unfolding weighted
not_weighted ws h = none_where (are_weights ws) (entry.Weights ws) (λ so. h (are_members ws so))

weighted_value : (ws : List ℕ) → IfSome (weighted ws) IsEntryValue
unfolding weighted
weighted_value ws = where_so (are_weights ws) (entry.Weights ws) IsEntryValue (are_members ws)

weights_value : (words : List (List ℕ)) → IfSome (weights_of words) IsEntryValue
unfolding weights_of
weights_value words = bind (numbers_after [] words) weighted (λ ns. ⊤) IsEntryValue (any (numbers_after [] words)) (λ ws _. weighted_value ws)

pub entry_value : (words : List (List ℕ)) → IfSome (entry_of_words words) IsEntryValue
unfolding entry_of_words
entry_value [] = tt
entry_value (first ∷ words) =
    either (bytes_eq first (codes "beanpax-dump")) (version_of_words words) _ IsEntryValue (version_value words)
    (either (bytes_eq first (codes "end")) (Some entry.End) _ IsEntryValue tt
    (either (bytes_eq first (codes "members")) (members_of_words words) _ IsEntryValue (members_value words)
    (either (bytes_eq first (codes "weights")) (weights_of words) (keyed_entry first words) IsEntryValue (weights_value words) (keyed_value first words))))
