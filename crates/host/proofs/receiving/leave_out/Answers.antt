use Rattle.std.proofs.Common.{◌≡◌, false, sym, subst, refl}
use Rattle.ballot.specs.Rests.{rest_of_body}
use Rattle.ballot.specs.declared.letter.Letter.{Letter}
use Rattle.node.specs.Receiving.{IsFit}
use Rattle.cluster.specs.Envelopes.{IsLegible}
use Rattle.host.proofs.Received.{unfit_left}
use Rattle.host.proofs.receiving.leave_out.Goals as goal

pub returns-then-not-is_fit-clause-some : goal.returns-then-not-is_fit-clause-some
returns-then-not-is_fit-clause-some g c = λ n now to.
    let letter = c.letter.result.now in
    unfit_left (record { base = c.args.base; holding = c.args.node.now }) c.args.envelope.now n now to
    (subst (λ (l : Letter _). IsLegible c.args.base c.args.envelope.now.label l.body) c.letter.ensures
    (subst (λ x. IsLegible c.args.base x letter.body) c.label.ensures (c.if-not-is_legible.ensures.yes refl)))
    (subst (λ (l : Letter _). Rattle.std.proofs.Common.is_none (rest_of_body c.args.base l.body) ≡ false) c.letter.ensures
    (sym c.if-is_forgotten.ensures))
    (λ f. c.if-not-is_fit.ensures.no refl
    (subst (λ (l : Letter _). IsFit c.args.node.now.state l.body) (sym c.letter.ensures) f))
