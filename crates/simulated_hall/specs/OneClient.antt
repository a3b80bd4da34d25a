-- What one object answers to one client, whom it alone serves: the client is session 1, and its requests are numbered
-- from 1. Where a request has no reply yet, seconds pass, one at a time.
use Rattle.std.specs.Prelude.{ℕ, zero, suc, ◌+◌, List, Option, None, Some, option_map}
use Rattle.object.specs.declared.command.Act.{Act}
use Rattle.object.specs.declared.command.Act.TheVariants.{Do, Close, Tick}
use Rattle.object.specs.declared.command.Answer.{Answer}
use Rattle.object.specs.declared.command.Command.{Command}
use Rattle.object.specs.declared.command.Key.{Key}
use Rattle.object.specs.Objects.{Rules}
use Rattle.object.specs.Answers.{answered_key}
use Rattle.object.specs.Keys.{found}

-- how far it went: the object, the number of the next request, and the second that it is
pub record Talk (O : Type 0) : Type 0 where
  pub object : O
  pub next : ℕ
  pub second : ℕ

-- at first it is second 0
abbrev pub opened : {O Op Reply : Type 0} → Rules O Op Reply → Talk O
opened rules = record { object = rules.fresh; next = 1; second = 0 }

-- the key of the next request
abbrev pub next_key : {O : Type 0} → Talk O → Key
next_key t = record { session = 1; number = t.next }

-- the next request, for an act
abbrev pub request : {O Op : Type 0} → Talk O → Act Op → Command Op
request t act = record { key = next_key t; act = act }

-- the next second
abbrev pub next_second : {O Op : Type 0} → Talk O → Command Op
next_second t = record { key = record { session = 0; number = t.second + 1 }; act = Tick }

-- the reply among these answers to a key
abbrev pub reply_among : {Reply : Type 0} → Key → List (Answer Reply) → Option Reply
reply_among key answers = option_map (λ a. a.reply) (found answered_key key answers)

-- how far it went then, and the reply, if there is one by now
pub record Said (O Reply : Type 0) : Type 0 where
  pub talk : Talk O
  pub reply : Option Reply

-- the object obeys the next request
abbrev pub next_obeyed : {O Op Reply : Type 0} → Rules O Op Reply → Talk O → Act Op → Said O Reply
next_obeyed rules t act = record {
  talk = record t { object = rules.after t.object (request t act); next = t.next + 1 };
  reply = reply_among (next_key t) (rules.answers t.object (request t act));
}

-- a second passes, while the client waits for the reply to a key
abbrev pub passed : {O Op Reply : Type 0} → Rules O Op Reply → Key → Talk O → Said O Reply
passed rules key t = record {
  talk = record t { object = rules.after t.object (next_second t); second = t.second + 1 };
  reply = reply_among key (rules.answers t.object (next_second t));
}

-- what is said, or where there is no reply what comes next
abbrev pub unless_said : {O Reply : Type 0} → (Talk O → Said O Reply) → Said O Reply → Option Reply → Said O Reply
unless_said more s None = more s.talk
unless_said more s (Some reply) = s

-- seconds pass until there is a reply, so many at most
abbrev pub waited : {O Op Reply : Type 0} → Rules O Op Reply → Key → ℕ → Said O Reply → Said O Reply
waited rules key zero s = s
waited rules key (suc n) s = unless_said (λ t. waited rules key n (passed rules key t)) s s.reply

-- a client waits for so many seconds at most
abbrev pub longest_wait : ℕ
longest_wait = 3600

-- the client asks, and waits for the reply
unfoldable pub answered : {O Op Reply : Type 0} → Rules O Op Reply → Talk O → Op → Said O Reply
answered rules t op = waited rules (next_key t) longest_wait (next_obeyed rules t (Do op))

-- the client leaves
abbrev pub left : {O Op Reply : Type 0} → Rules O Op Reply → Talk O → Talk O
left rules t = (next_obeyed rules t Close).talk
