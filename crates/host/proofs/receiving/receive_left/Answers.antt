use Rattle.std.proofs.Common.{◌≡◌, Some, sym, ap, ◌∙◌, subst}
use Rattle.std.proofs.lemmas.Result.{on_ok_weaker}
use Rattle.ballot.specs.Left.{what_is_left}
use Rattle.ballot.specs.Rests.{rest_of_body}
use Rattle.ballot.specs.declared.letter.Letter.{Letter}
use Rattle.node.specs.Receiving.{SaysNothingNew}
use Rattle.host.specs.Receiving.{TakesBody}
use Rattle.std.proofs.Common.{false, is_none}
use Rattle.host.proofs.Received.{takes_left, whole_left}
use Rattle.host.proofs.receiving.receive_left.Goals as goal

pub returns-in-Part-clause-ok : goal.returns-in-Part-clause-ok
returns-in-Part-clause-ok g c =
    let letter = c.letter-letter.result.now in
    on_ok_weaker c.receive_body.result
    (λ k. takes_left c.args.base c.args.number c.args.node.now c.receive_body.new.node c.args.envelope.now
    c.in-Part.part c.args.sent.now.items c.receive_body.new.sent.items c.requires.to c.requires.may
    (subst (λ (l : Letter _). rest_of_body c.args.base l.body ≡ Some c.in-Part.part) c.letter-letter.ensures
    (sym (ap (what_is_left letter.body) (sym c.in-Part.is) ∙ c.in_ok-part.ensures.left)))
    (subst (λ (l : Letter _). TakesBody l.«from» c.args.node.now c.in-Part.part c.receive_body.new.node
    c.args.sent.now.items c.receive_body.new.sent.items) c.letter-letter.ensures k))
    c.receive_body.ensures.ok

pub returns-in_default : goal.returns-in_default
returns-in_default g c =
    let letter = c.letter-letter.result.now in
    record {
      ok = on_ok_weaker c.receive_body-in_default.result
          (λ k. takes_left c.args.base c.args.number c.args.node.now c.receive_body-in_default.new.node
          c.args.envelope.now c.args.envelope.now.letter.body c.args.sent.now.items
          c.receive_body-in_default.new.sent.items c.requires.to c.requires.may
          (subst (λ (l : Letter _). rest_of_body c.args.base l.body ≡ Some l.body) c.letter-letter.ensures
          (whole_left c.in_ok-part.field-0 letter.body (rest_of_body c.args.base letter.body) c.in_default.not-Part
          c.in_ok-part.ensures.left
          (subst (λ (l : Letter _). is_none (rest_of_body c.args.base l.body) ≡ false) (sym c.letter-letter.ensures)
          c.requires.may.some)))
          (subst (λ (l : Letter _). TakesBody l.«from» c.args.node.now l.body c.receive_body-in_default.new.node
          c.args.sent.now.items c.receive_body-in_default.new.sent.items) c.letter-letter.ensures k))
          c.receive_body-in_default.ensures.ok;
      again = λ whole new. c.receive_body-in_default.ensures.again
          (subst (λ (l : Letter _). SaysNothingNew c.args.node.now.state l.body) (sym c.letter-letter.ensures) new);
      err = c.receive_body-in_default.ensures.err;
    }
