-- A client's command is short enough for a log.
use Rattle.std.proofs.Common.{◌≡◌, ℕ, suc, ◌+◌, ◌^◌, ◌<◌, ◌≤◌, List, [], ◌∷◌, length, codes, decimal, Some, None, arith, length-append}
use Rattle.std.proofs.lemmas.Fmt.{length-decimal-le}
use Rattle.hex.specs.Hex.{lower_digits}
use Rattle.hex.proofs.HexLemmas.{length-encode_with}
use Rattle.object.specs.declared.command.Act.{Act}
use Rattle.object.specs.declared.command.Act.TheVariants.{Do, Close, Tick}
use Rattle.object.specs.declared.command.Command.{Command}
use Rattle.bean_words.specs.declared.op.Op.{Op}
use Rattle.bean_words.specs.declared.op.Op.TheVariants.{Put, Use, Watch, Ignore, Reserve, Delete, Touch, Release, Bury}
use Rattle.bean_words.specs.declared.op.Op.TheVariants.{Kick, KickJob, Peek, PeekReady, PeekDelayed, PeekBuried}
use Rattle.bean_words.specs.declared.op.Op.TheVariants.{ListTubes, ListTubeUsed, ListTubesWatched, Pause}
use Rattle.bean_words.specs.declared.op.Op.TheVariants.{ReserveJob, StatsJob, StatsTube, Stats}
use Rattle.bean_words.specs.Names.{IsName}
use Rattle.chronicle_text.specs.Acts.{act_words, op_words}
use Rattle.chronicle_text.specs.Lines.{after_space, body_word, spaced}
use Rattle.chronicle_text.specs.Values.{IsActValue, IsCommandValue, IsOpValue}
use Rattle.command_log.specs.Lines.{HasClientBody}
use Rattle.command_log.specs.Text.{command_words}

ten : (n : ℕ) → n < 2 ^ 32 → length (decimal n) ≤ 20
ten n h = length-decimal-le 20 n (omega arith) (omega arith) (omega arith)

twenty : (n : ℕ) → n < 2 ^ 64 → length (decimal n) ≤ 20
twenty n h = length-decimal-le 20 n (omega arith) (omega arith) h

ten_digits : (n : ℕ) → n < 2 ^ 32 → length (decimal n) ≤ 10
ten_digits n h = length-decimal-le 10 n (omega arith) (omega arith) (omega arith)

one_more : (w : List ℕ) (ws : List (List ℕ)) → length (spaced (w ∷ ws)) ≡ suc (length w) + length (spaced ws)
one_more w ws = omega (arith, length-append (after_space w) (spaced ws))

body_short : (body : List ℕ) → length body ≤ 65535 → length (body_word body) ≤ 131070
unfolding body_word
body_short [] h = omega arith
body_short (b ∷ more) h = omega (arith, length-encode_with lower_digits (b ∷ more))

one : (a : List ℕ) → length a ≤ 20 → length (spaced (a ∷ [])) ≤ 131110
one a h = omega (arith, one_more a [])

two : (a b : List ℕ) → length a ≤ 20 → length b ≤ 200 → length (spaced (a ∷ b ∷ [])) ≤ 131110
two a b h k = omega (arith, one_more a (b ∷ []), one_more b [])

three : (a b c : List ℕ) → length a ≤ 20 → length b ≤ 200 → length c ≤ 20 → length (spaced (a ∷ b ∷ c ∷ [])) ≤ 131110
three a b c h k l = omega (arith, one_more a (b ∷ c ∷ []), one_more b (c ∷ []), one_more c [])

number_two : (a : List ℕ) (n : ℕ) → length a ≤ 20 → n < 2 ^ 64 → length (spaced (a ∷ decimal n ∷ [])) ≤ 131110
number_two a n h k = let d = twenty n k in two a (decimal n) h (omega (arith, d))

name_two : (a name : List ℕ) → length a ≤ 20 → IsName name → length (spaced (a ∷ name ∷ [])) ≤ 131110
name_two a name h k = two a name h k.few

op_short : (op : Op) → IsOpValue op → HasClientBody (Do op) → length (spaced (op_words op)) ≤ 131110
unfolding op_words
op_short (Put pri delay ttr body) h short = omega (
  arith,
  ten_digits pri h.0,
  ten_digits delay h.1,
  ten_digits ttr h.2,
  body_short body short,
  one_more (codes "put") (decimal pri ∷ decimal delay ∷ decimal ttr ∷ body_word body ∷ []),
  one_more (decimal pri) (decimal delay ∷ decimal ttr ∷ body_word body ∷ []),
  one_more (decimal delay) (decimal ttr ∷ body_word body ∷ []),
  one_more (decimal ttr) (body_word body ∷ []),
  one_more (body_word body) [],
)
op_short (Use tube) h short = name_two (codes "use") tube (omega arith) h
op_short (Watch tube) h short = name_two (codes "watch") tube (omega arith) h
op_short (Ignore tube) h short = name_two (codes "ignore") tube (omega arith) h
op_short (Reserve None) h short = one (codes "reserve") (omega arith)
op_short (Reserve (Some seconds)) h short = number_two (codes "reserve-with-timeout") seconds (omega arith) (omega arith)
op_short (Delete id) h short = number_two (codes "delete") id (omega arith) h
op_short (Touch id) h short = number_two (codes "touch") id (omega arith) h
op_short (Release id pri delay) h short = omega (
  arith,
  twenty id h.0,
  ten pri h.1,
  ten delay h.2,
  one_more (codes "release") (decimal id ∷ decimal pri ∷ decimal delay ∷ []),
  one_more (decimal id) (decimal pri ∷ decimal delay ∷ []),
  one_more (decimal pri) (decimal delay ∷ []),
  one_more (decimal delay) [],
)
op_short (Bury id pri) h short =
    let digits = twenty id h.0 in
    three (codes "bury") (decimal id) (decimal pri) (omega arith) (omega (arith, digits)) (ten pri h.1)
op_short (Kick bound) h short = number_two (codes "kick") bound (omega arith) (omega arith)
op_short (KickJob id) h short = number_two (codes "kick-job") id (omega arith) h
op_short (Peek id) h short = number_two (codes "peek") id (omega arith) h
op_short PeekReady h short = one (codes "peek-ready") (omega arith)
op_short PeekDelayed h short = one (codes "peek-delayed") (omega arith)
op_short PeekBuried h short = one (codes "peek-buried") (omega arith)
op_short ListTubes h short = one (codes "list-tubes") (omega arith)
op_short ListTubeUsed h short = one (codes "list-tube-used") (omega arith)
op_short ListTubesWatched h short = one (codes "list-tubes-watched") (omega arith)
op_short (Pause tube seconds) h short = three (codes "pause-tube") tube (decimal seconds) (omega arith) h.0.few (ten seconds h.1)
op_short (ReserveJob id) h short = number_two (codes "reserve-job") id (omega arith) h
op_short (StatsJob id) h short = number_two (codes "stats-job") id (omega arith) h
op_short (StatsTube tube) h short = name_two (codes "stats-tube") tube (omega arith) h
op_short Stats h short = one (codes "stats") (omega arith)

act_short : (act : Act Op) → IsActValue act → HasClientBody act → length (spaced (act_words act)) ≤ 131110
unfolding act_words
act_short (Do op) h short = op_short op h short
act_short Close h short = one (codes "close") (omega arith)
act_short Tick h short = one (codes "tick") (omega arith)

pub client_short : (c : Command Op) → IsCommandValue c → HasClientBody c.act → length (command_words c) ≤ 131190
unfolding command_words
client_short c h short = omega (
  arith,
  ten_digits c.key.session h.0.0,
  twenty c.key.number h.0.1,
  act_short c.act h.1 short,
  one_more (decimal c.key.number) (act_words c.act),
  length-append (decimal c.key.session) (spaced (decimal c.key.number ∷ act_words c.act)),
)
