-- What a chronicle's values are, their texts can tell.
use Rattle.std.proofs.Common.{◌≡◌, ℕ, arith, List, [], ◌∷◌, Some, None}
use Rattle.std.specs.List.{AllByRecursion}
use Rattle.object.specs.declared.command.Act.{Act}
use Rattle.object.specs.declared.command.Act.TheVariants.{Do, Close, Tick}
use Rattle.object.specs.declared.command.Answer.{Answer}
use Rattle.object.specs.declared.command.Key.{Key}
use Rattle.object.specs.declared.command.Submission.{Submission}
use Rattle.bean_words.specs.declared.op.Op.{Op}
use Rattle.bean_words.specs.declared.op.Op.TheVariants.{Put, Use, Watch, Ignore, Reserve, Delete, Touch, Release, Bury}
use Rattle.bean_words.specs.declared.op.Op.TheVariants.{Kick, KickJob, Peek, PeekReady, PeekDelayed, PeekBuried}
use Rattle.bean_words.specs.declared.op.Op.TheVariants.{ListTubes, ListTubeUsed, ListTubesWatched, Pause}
use Rattle.bean_words.specs.declared.op.Op.TheVariants.{ReserveJob, StatsJob, StatsTube, Stats}
use Rattle.bean_words.specs.declared.reply.Reply.{Reply}
use Rattle.recorder.specs.Chronicles.{Chronicle}
use Rattle.chronicle_text.specs.Dump.{dump_text}
use Rattle.chronicle_text.specs.Fits.{FitsAct, FitsAnswer, FitsChronicle, FitsCommand, FitsKey, FitsOp}
use Rattle.chronicle_text.specs.Values.{IsActValue, IsAnswerValue, IsChronicleValue, IsCommandValue, IsKeyValue, IsOpValue, IsShort, IsLong}
use Rattle.chronicle_text.proofs.texts.OneChronicle.{one_chronicle}

short : (n : ℕ) → IsShort n → IsLong n
short n is = omega (arith, is)

key_fits : (key : Key) → IsKeyValue key → FitsKey key
key_fits key is = (short key.session is.0, is.1)

op_fits : (op : Op) → IsOpValue op → FitsOp op
op_fits (Put pri delay ttr body) is = (short pri is.0, short delay is.1, short ttr is.2, is.3)
op_fits (Use tube) is = is
op_fits (Watch tube) is = is
op_fits (Ignore tube) is = is
op_fits (Reserve None) is = tt
op_fits (Reserve (Some seconds)) is = short seconds is
op_fits (Delete id) is = is
op_fits (Touch id) is = is
op_fits (Release id pri delay) is = (is.0, short pri is.1, short delay is.2)
op_fits (Bury id pri) is = (is.0, short pri is.1)
op_fits (Kick bound) is = short bound is
op_fits (KickJob id) is = is
op_fits (Peek id) is = is
op_fits PeekReady is = tt
op_fits PeekDelayed is = tt
op_fits PeekBuried is = tt
op_fits ListTubes is = tt
op_fits ListTubeUsed is = tt
op_fits ListTubesWatched is = tt
op_fits (Pause tube seconds) is = (is.0, short seconds is.1)
op_fits (ReserveJob id) is = is
op_fits (StatsJob id) is = is
op_fits (StatsTube tube) is = is
op_fits Stats is = tt

act_fits : (act : Act Op) → IsActValue act → FitsAct act
act_fits (Do op) is = op_fits op is
act_fits Close is = tt
act_fits Tick is = tt

submitted_fit : (submitted : List (Submission Op))
    → AllByRecursion (λ (s : Submission Op). IsCommandValue s.command) submitted
    → AllByRecursion (λ (s : Submission Op). FitsCommand s.command) submitted
submitted_fit [] is = tt
submitted_fit (s ∷ more) is = ((key_fits s.command.key is.0.0, act_fits s.command.act is.0.1), submitted_fit more is.1)

answers_fit : (answers : List (Answer Reply)) → AllByRecursion IsAnswerValue answers → AllByRecursion FitsAnswer answers
answers_fit [] is = tt
answers_fit (a ∷ more) is = ((key_fits a.to is.0.0, is.0.1), answers_fit more is.1)

order_fits : (order : List Key) → AllByRecursion IsKeyValue order → AllByRecursion FitsKey order
order_fits [] is = tt
order_fits (key ∷ more) is = (key_fits key is.0, order_fits more is.1)

values_fit : (c : Chronicle Op Reply) → IsChronicleValue c → FitsChronicle c
values_fit c is = record {
  submitted = submitted_fit c.submitted is.submitted;
  answers = answers_fit c.answers is.answers;
  order = order_fits c.order is.order;
}

-- so two of them have one text only where they are one
pub one_value : (c d : Chronicle Op Reply) → IsChronicleValue c → IsChronicleValue d → dump_text c ≡ dump_text d → c ≡ d
one_value c d is other = one_chronicle c d is.chronicle other.chronicle (values_fit c is) (values_fit d other)
