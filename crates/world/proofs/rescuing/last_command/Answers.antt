use Rattle.std.proofs.Common.{◌≡◌, true, inr, refl, sym, ◌∙◌, subst}
use Rattle.object.specs.Keys.{same_key}
use Rattle.object.specs.KeyLaws.{same_is}
use Rattle.object.specs.Happenings.{is_submitted}
use Rattle.agreement.proofs.order.Submitted.{key_submitted}
use Rattle.world.proofs.standing.Voters.{In-at}
use Rattle.world.proofs.ways.Rescued.{has_greater, is_last}
use Rattle.world.proofs.rescuing.last_command.Goals as goal

pub returns-then-has_greater-clause-none : goal.returns-then-has_greater-clause-none
returns-then-has_greater-clause-none g c = inr (has_greater c.args.key c.args.submitted.now (sym c.has_greater.ensures ∙ c.if-has_greater.true))

pub returns-then-eq-clause-was : goal.returns-then-eq-clause-was
returns-then-eq-clause-was g c = (
  c.submission-item.result,
  In-at c.args.submitted.now c.loop-submission.submission-index
      c.submission-item.result c.loop-submission-test.true c.submission-item.is,
  refl,
)

pub returns-then-eq-clause-last : goal.returns-then-eq-clause-last
returns-then-eq-clause-last g c =
    is_last c.args.key c.args.submitted.now
    (subst (λ k. is_submitted k c.args.submitted.now ≡ true)
    (same_is c.submission-item.result.command.key c.args.key
    (subst (λ k. same_key k c.args.key ≡ true) c.key.ensures.key (sym c.eq.ensures ∙ c.if-eq.true)))
    (key_submitted c.submission-item.result.command c.args.submitted.now (returns-then-eq-clause-was g c)))
    (sym c.has_greater.ensures ∙ c.if-has_greater.false)
