use Rattle.std.proofs.Common.{sym, ap, ◌∙◌, subst}
use Rattle.std.proofs.lemmas.Option.{same_Some}
use Rattle.node.specs.Receiving.{ShowsReceived}
use Rattle.ballot.specs.Left.{what_is_left}
use Rattle.lean_network.proofs.lean_network.receive_left.Goals as goal

pub returns-in_ok-receive-in-All-clause-received :
    goal.returns-in_ok-receive-in-All-clause-received
returns-in_ok-receive-in-All-clause-received g c = λ left e.
    subst (λ b. ShowsReceived c.args.letter.now.«from» c.args.node.now.state b c.receive.new.self.state
    c.args.sent.now.items c.receive.new.out.items)
    (same_Some c.args.letter.now.body left
    (ap (what_is_left c.args.letter.now.body) (sym c.in-All.is) ∙ c.in_ok-left_of.ensures.left ∙ e))
    c.in_ok-receive-in-All.ensures.ok

pub returns-in_ok-receive-in-Part-clause-received :
    goal.returns-in_ok-receive-in-Part-clause-received
returns-in_ok-receive-in-Part-clause-received g c = λ left e.
    subst (λ b. ShowsReceived c.args.letter.now.«from» c.args.node.now.state b c.receive-in-Part.new.self.state
    c.args.sent.now.items c.receive-in-Part.new.out.items)
    (same_Some c.in-Part.part left
    (ap (what_is_left c.args.letter.now.body) (sym c.in-Part.is) ∙ c.in_ok-left_of.ensures.left ∙ e))
    c.in_ok-receive-in-Part.ensures.ok
