use Rattle.std.proofs.Common.{ap}
use Rattle.session.specs.Held.{Held}
use Rattle.conversation.proofs.Steps.{goes_feeding, goes_losing}
use Rattle.conversation.proofs.conversation.Conversation.feed.Goals as goal

pub returns-in-Ok-clause-goes : goal.returns-in-Ok-clause-goes
returns-in-Ok-clause-goes g c = λ fed given.
    goes_feeding g.T.SessionTicket.keeping c.self.view_is fed given c.feed.new.self c.go_to.new.self c.args.piece.now c.requires.wanted
    (ap (λ (s : Held). s.profile) c.in-Ok.ensures.fed.ok) (ap (λ (s : Held). s.unsent) c.in-Ok.ensures.fed.ok) c.in-Ok.ensures.stands c.go_to.ensures

pub returns-in-Err-clause-goes : goal.returns-in-Err-clause-goes
returns-in-Err-clause-goes g c = λ fed given.
    goes_losing g.T.SessionTicket.keeping c.self.view_is fed given c.feed.new.self c.go_to-in-Err.new.self c.args.piece.now c.requires.wanted
    (ap (λ (s : Held). s.profile) c.in-Err.ensures.fed.err) (ap (λ (s : Held). s.unsent) c.in-Err.ensures.fed.err) c.go_to-in-Err.ensures
