use Rattle.std.proofs.Common.{◌≡◌, ◌∙◌, true, rules}
use Rattle.conversation.specs.Talks.{may_look}
use Rattle.conversation.proofs.Steps.{goes_looking}
use Rattle.conversation.proofs.conversation.Conversation.look.Goals as goal

pub returns-clause-goes : goal.returns-clause-goes
returns-clause-goes g c = λ fed given.
    let looked : may_look c.args.self.now ≡ true = search rules in
    goes_looking g.T.SessionTicket.keeping c.self.view_is fed given c.next_ask.new.self c.in_ok-found.found c.go_to.new.self looked
    c.in_ok-found.ensures.profile c.in_ok-found.ensures.found (c.go_to.ensures ∙ c.stage_after.ensures)
