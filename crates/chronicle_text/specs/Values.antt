-- What the values of a chronicle are, as their types keep them: numbers of 32 or 64 bits, names of tubes, bodies of bytes, and
-- keys that may ask for their acts.
use Rattle.std.specs.Prelude.{ℕ, ◌<◌, ◌^◌, ⊤}
use Rattle.std.specs.List.{AllByRecursion}
use Rattle.object.specs.Commands.{IsCommand}
use Rattle.object.specs.declared.command.Act.{Act}
use Rattle.object.specs.declared.command.Answer.{Answer}
use Rattle.object.specs.declared.command.Command.{Command}
use Rattle.object.specs.declared.command.Key.{Key}
use Rattle.object.specs.declared.command.Submission.{Submission}
use Rattle.bean_words.specs.Names.{IsName}
use Rattle.bean_words.specs.declared.op.Op.{Op}
use Rattle.bean_words.specs.declared.reply.Reply.{Reply}
use Rattle.bean_words.specs.declared.reply.Reply.TheVariants.{Inserted, Using, Watching, Reserved, KickedCount, Found, Tubes, Data}
use Rattle.recorder.specs.Chronicles.{Chronicle, IsChronicle}
use Rattle.chronicle_text.specs.Sizes.{HasKeySizes, HasOpSizes, HasActSizes}
use Rattle.hex.specs.Hex.{IsBytes}

-- it has 32 bits
abbrev pub IsShort : ℕ → Type 0
IsShort n = n < 2 ^ 32

-- it has 64 bits
abbrev pub IsLong : ℕ → Type 0
IsLong n = n < 2 ^ 64

abbrev pub IsKeyValue : Key → Type 0
IsKeyValue key = HasKeySizes IsShort IsLong key

abbrev pub IsOpValue : Op → Type 0
IsOpValue op = HasOpSizes IsShort IsLong op

abbrev pub IsActValue : Act Op → Type 0
IsActValue act = HasActSizes IsShort IsLong act

abbrev pub IsReplyValue : Reply → Type 0
IsReplyValue (Inserted id) = IsLong id
IsReplyValue (Using tube) = IsName tube
IsReplyValue (Watching count) = IsLong count
IsReplyValue (Reserved id body) = IsLong id × IsBytes body
IsReplyValue (KickedCount count) = IsLong count
IsReplyValue (Found id body) = IsLong id × IsBytes body
IsReplyValue (Tubes names) = AllByRecursion IsName names
IsReplyValue (Data text) = IsBytes text
IsReplyValue _ = ⊤

abbrev pub IsCommandValue : Command Op → Type 0
IsCommandValue c = IsKeyValue c.key × IsActValue c.act × IsCommand c

abbrev pub IsAnswerValue : Answer Reply → Type 0
IsAnswerValue a = IsKeyValue a.to × IsReplyValue a.reply

-- a chronicle of a queue
pub record IsChronicleValue (c : Chronicle Op Reply) : Type 0 where
  pub chronicle : IsChronicle c
  pub submitted : AllByRecursion (λ (s : Submission Op). IsCommandValue s.command) c.submitted
  pub answers : AllByRecursion IsAnswerValue c.answers
  pub order : AllByRecursion IsKeyValue c.order
