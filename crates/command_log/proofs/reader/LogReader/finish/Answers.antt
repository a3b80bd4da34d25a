use Rattle.std.proofs.Common.{inl, inr, sym, ◌∙◌}
use Rattle.std.proofs.lemmas.Bool.{false≢true}
use Rattle.command_log.proofs.Endings.{says_begun, says_damaged, says_otherwise, says_right, says_unlike, says_wrong}
use Rattle.command_log.proofs.reader.LogReader.finish.Goals as goal

pub returns-in-Head-clause-fault : goal.returns-in-Head-clause-fault
returns-in-Head-clause-fault c = λ text commands h. says_begun c.args.self text commands h c.in-Head.is c.if-begun.true

pub returns-in-Head-2-clause-fault : goal.returns-in-Head-2-clause-fault
returns-in-Head-2-clause-fault c = λ text commands h.
    says_unlike c.args.self text commands h c.in-Head.is (λ begun. false≢true (sym c.if-begun.false ∙ begun))

pub returns-in-BadHead-clause-fault : goal.returns-in-BadHead-clause-fault
returns-in-BadHead-clause-fault c = λ text commands h. says_otherwise c.args.self text commands h c.in-BadHead.is

pub returns-in-Right-clause-whole : goal.returns-in-Right-clause-whole
returns-in-Right-clause-whole c = λ text commands h. elim c.in-Right.is [
  | inl same ↦ says_right c.args.self text commands c.in-Right.whole h same
  | inr same ↦ says_wrong c.args.self text commands c.in-Right.whole h same
]

pub returns-clause-fault : goal.returns-clause-fault
returns-clause-fault c = λ text commands h. says_damaged c.args.self text commands c.in-Damaged.line h c.in-Damaged.is
