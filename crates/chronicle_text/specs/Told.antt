-- What the words of a line tell, where they are those of a line as it is written. Of other words they may tell something too.
use Rattle.std.specs.Prelude.{ℕ, ◌^◌, Bool, ◌&&◌, ◌==◌, nat_lt, nat_le, List, [], ◌∷◌, ◌++◌, length, codes, Option, Some, None, Result, Ok, Err, if◌then◌else◌}
use Rattle.std.specs.List.{list_all}
use Rattle.std.specs.Option.{option_map, option_and_then}
use Rattle.std.specs.Str.{bytes_eq}
use Rattle.ballot.specs.Members.{is_weight}
use Rattle.object.specs.declared.command.Act.{Act}
use Rattle.object.specs.declared.command.Act.TheVariants.{Do, Close, Tick}
use Rattle.object.specs.declared.command.Key.{Key}
use Rattle.bean_words.specs.declared.op.Op.{Op}
use Rattle.bean_words.specs.declared.op.Op.TheVariants.{Put}
use Rattle.bean_words.specs.declared.reply.Reply.{Reply}
use Rattle.bean_words.specs.declared.reply.Reply.TheVariants.{Inserted, Using, Watching, NotIgnored, Reserved}
use Rattle.bean_words.specs.declared.reply.Reply.TheVariants.{DeadlineSoon, TimedOut, Deleted, NotFound, Released}
use Rattle.bean_words.specs.declared.reply.Reply.TheVariants.{Buried, Touched, KickedCount, Kicked, Found, Tubes}
use Rattle.bean_words.specs.declared.reply.Reply.TheVariants.{Paused, Data, InternalError}
use Rattle.bean_codec.specs.declared.profile.Profile.TheVariants.{Extended}
use Rattle.bean_codec.specs.declared.command.CommandName.{CommandName}
use Rattle.bean_codec.specs.declared.command.CommandName.TheVariants as command
use Rattle.bean_codec.specs.declared.line.Meaning.{Meaning}
use Rattle.bean_codec.specs.declared.line.Meaning.TheVariants.{Whole}
use Rattle.bean_codec.specs.declared.request.Request.TheVariants as request
use Rattle.bean_codec.specs.Arguments.{line_of}
use Rattle.bean_codec.specs.Commands.{command_of}
use Rattle.bean_codec.specs.Numbers.{◌>>=◌, u32_of, u64_of}
use Rattle.bean_codec.specs.TubeNames.{name_of}
use Rattle.chronicle_text.specs.declared.entry.Entry.{Entry}
use Rattle.chronicle_text.specs.declared.entry.Entry.TheVariants as entry
use Rattle.chronicle_text.specs.declared.version.Version.TheVariants.{One, Two}
use Rattle.hex.specs.Hex.{decode_of}
use Rattle.hex.specs.declared.error.FromHexError.{FromHexError}

-- ---- bodies

abbrev pub decoded : Result (List ℕ) FromHexError → Option (List ℕ)
decoded (Ok bytes) = Some bytes
decoded (Err e) = None

-- the body that the word tells
unfoldable pub body_of : List ℕ → Option (List ℕ)
body_of word = if bytes_eq word (codes "-") then Some [] else decoded (decode_of word)

-- ---- acts

-- the operation put, but for its first word
unfoldable pub put_of : List (List ℕ) → Option (Act Op)
put_of (pri ∷ delay ∷ ttr ∷ body ∷ []) = do
  pri ← u32_of pri
  delay ← u32_of delay
  ttr ← u32_of ttr
  body ← body_of body
  Some (Do (Put pri delay ttr body))
put_of _ = None

-- the operation that a request asks for
abbrev pub act_in : Meaning → Option (Act Op)
act_in (Whole (request.Do op)) = Some (Do op)
act_in _ = None

-- the act that the words after the command tell
unfoldable pub act_with : Option CommandName → List (List ℕ) → Option (Act Op)
act_with None words = None
act_with (Some command.Put) words = put_of words
act_with (Some command) words = option_and_then act_in (line_of command words)

-- the act that the words tell, in the profile that knows most
unfoldable pub act_of : List (List ℕ) → Option (Act Op)
act_of [] = None
act_of (first ∷ words) =
    if bytes_eq first (codes "tick") then Some Tick
    else if bytes_eq first (codes "close") then Some Close
    else act_with (command_of Extended first) words

-- ---- replies

-- the reply of this word alone
unfoldable pub lone_reply : List ℕ → Option Reply
lone_reply word =
    if bytes_eq word (codes "NOT_IGNORED") then Some NotIgnored
    else if bytes_eq word (codes "DEADLINE_SOON") then Some DeadlineSoon
    else if bytes_eq word (codes "TIMED_OUT") then Some TimedOut
    else if bytes_eq word (codes "DELETED") then Some Deleted
    else if bytes_eq word (codes "NOT_FOUND") then Some NotFound
    else if bytes_eq word (codes "RELEASED") then Some Released
    else if bytes_eq word (codes "BURIED") then Some Buried
    else if bytes_eq word (codes "TOUCHED") then Some Touched
    else if bytes_eq word (codes "KICKED") then Some Kicked
    else if bytes_eq word (codes "PAUSED") then Some Paused
    else if bytes_eq word (codes "INTERNAL_ERROR") then Some InternalError
    else None

-- the reply of a word and a number
unfoldable pub number_reply : List ℕ → ℕ → Option Reply
number_reply word number =
    if bytes_eq word (codes "INSERTED") then Some (Inserted number)
    else if bytes_eq word (codes "WATCHING") then Some (Watching number)
    else if bytes_eq word (codes "KICKED") then Some (KickedCount number)
    else None

-- the reply of two words
unfoldable pub reply_with : List ℕ → List ℕ → Option Reply
reply_with word a =
    if bytes_eq word (codes "USING") then option_map Using (name_of a)
    else if bytes_eq word (codes "DATA") then option_map Data (body_of a)
    else option_and_then (number_reply word) (u64_of a)

-- the reply of a word and a job
unfoldable pub job_with : List ℕ → ℕ → List ℕ → Option Reply
job_with word id body =
    if bytes_eq word (codes "RESERVED") then Some (Reserved id body)
    else if bytes_eq word (codes "FOUND") then Some (Found id body)
    else None

-- the same, of the words for the job
unfoldable pub job_reply : List ℕ → List ℕ → List ℕ → Option Reply
job_reply word id body = do
  id ← u64_of id
  body ← body_of body
  job_with word id body

-- the names that are told after these
abbrev pub names_after : List (List ℕ) → List (List ℕ) → Option (List (List ℕ))
names_after names [] = Some names
names_after names (word ∷ words) = do
  name ← name_of word
  names_after (names ++ (name ∷ [])) words

-- the reply of the words, but for a list of tubes
unfoldable pub other_reply : List ℕ → List (List ℕ) → Option Reply
other_reply first [] = lone_reply first
other_reply first (a ∷ []) = reply_with first a
other_reply first (a ∷ b ∷ _) = job_reply first a b

-- the reply that the words tell
unfoldable pub reply_of : List (List ℕ) → Option Reply
reply_of [] = None
reply_of (first ∷ words) = if bytes_eq first (codes "OK") then option_map Tubes (names_after [] words) else other_reply first words

-- ---- lines

-- whether the key may ask for the act
abbrev pub may_ask : Key → Act Op → Bool
may_ask key Tick = key.session == 0 && nat_le key.number (2 ^ 40)
may_ask key _ = nat_lt 0 key.session

-- the command, unless the key may not ask for the act
unfoldable pub submitted_of : Key → Act Op → Option Entry
submitted_of key act =
    if may_ask key act && nat_lt 0 key.number && nat_le key.number (2 ^ 62)
    then Some (entry.Submitted (record { key = key; act = act }))
    else None

-- what the words after the key tell, by the line's first word
unfoldable pub entry_under : List ℕ → Key → List (List ℕ) → Option Entry
entry_under letter key words =
    if bytes_eq letter (codes "S") then option_and_then (submitted_of key) (act_of words)
    else if bytes_eq letter (codes "A") then option_map (λ reply. entry.Answered (record { to = key; reply = reply })) (reply_of words)
    else if bytes_eq letter (codes "O") then Some (entry.Placed key)
    else None

-- the key that two words tell
unfoldable pub key_of : List ℕ → List ℕ → Option Key
key_of session number = do
  session ← u32_of session
  number ← u64_of number
  Some (record { session = session; number = number })

-- what a line with a key tells
unfoldable pub keyed_entry : List ℕ → List (List ℕ) → Option Entry
keyed_entry letter (session ∷ number ∷ words) = do
  key ← key_of session number
  entry_under letter key words
keyed_entry letter _ = None

-- the version that the words tell
unfoldable pub version_of_words : List (List ℕ) → Option Entry
version_of_words [] = None
version_of_words (word ∷ _) =
    if bytes_eq word (codes "1") then Some (entry.Version One)
    else if bytes_eq word (codes "2") then Some (entry.Version Two)
    else None

-- how many members the words tell
unfoldable pub members_of_words : List (List ℕ) → Option Entry
members_of_words [] = None
members_of_words (word ∷ _) = do
  count ← u64_of word
  if nat_lt 0 count && nat_le count 7 then Some (entry.Members count) else None

-- members can have these weights
abbrev pub are_weights : List ℕ → Bool
are_weights weights = nat_lt 0 (length weights) && nat_le (length weights) 7 && list_all is_weight weights

-- the weights, where members can have them
unfoldable pub weighted : List ℕ → Option Entry
weighted weights = if are_weights weights then Some (entry.Weights weights) else None

-- the numbers that are told after these
abbrev pub numbers_after : List ℕ → List (List ℕ) → Option (List ℕ)
numbers_after numbers [] = Some numbers
numbers_after numbers (word ∷ words) = do
  number ← u32_of word
  numbers_after (numbers ++ (number ∷ [])) words

-- the weights that the words tell
unfoldable pub weights_of : List (List ℕ) → Option Entry
weights_of words = option_and_then weighted (numbers_after [] words)

-- what the words of a line tell
unfoldable pub entry_of_words : List (List ℕ) → Option Entry
entry_of_words [] = None
entry_of_words (first ∷ words) =
    if bytes_eq first (codes "beanpax-dump") then version_of_words words
    else if bytes_eq first (codes "end") then Some entry.End
    else if bytes_eq first (codes "members") then members_of_words words
    else if bytes_eq first (codes "weights") then weights_of words
    else keyed_entry first words
