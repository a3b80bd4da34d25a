-- The same of wider values, all of whose numbers may have 64 bits.
use Rattle.std.specs.List.{AllByRecursion}
use Rattle.object.specs.declared.command.Act.{Act}
use Rattle.object.specs.declared.command.Answer.{Answer}
use Rattle.object.specs.declared.command.Command.{Command}
use Rattle.object.specs.declared.command.Key.{Key}
use Rattle.object.specs.declared.command.Submission.{Submission}
use Rattle.bean_words.specs.declared.op.Op.{Op}
use Rattle.bean_words.specs.declared.reply.Reply.{Reply}
use Rattle.recorder.specs.Chronicles.{Chronicle}
use Rattle.chronicle_text.specs.Sizes.{HasKeySizes, HasOpSizes, HasActSizes}
use Rattle.chronicle_text.specs.Values.{IsLong, IsReplyValue}

-- each number of a key has at most 64 bits
abbrev pub FitsKey : Key → Type 0
FitsKey key = HasKeySizes IsLong IsLong key

-- the same of an operation and an act
abbrev pub FitsOp : Op → Type 0
FitsOp op = HasOpSizes IsLong IsLong op

abbrev pub FitsAct : Act Op → Type 0
FitsAct act = HasActSizes IsLong IsLong act

-- the same of a command, and of an answer
abbrev pub FitsCommand : Command Op → Type 0
FitsCommand c = FitsKey c.key × FitsAct c.act

abbrev pub FitsAnswer : Answer Reply → Type 0
FitsAnswer a = FitsKey a.to × IsReplyValue a.reply

-- the same of all that a chronicle has
pub record FitsChronicle (c : Chronicle Op Reply) : Type 0 where
  pub submitted : AllByRecursion (λ (s : Submission Op). FitsCommand s.command) c.submitted
  pub answers : AllByRecursion FitsAnswer c.answers
  pub order : AllByRecursion FitsKey c.order
