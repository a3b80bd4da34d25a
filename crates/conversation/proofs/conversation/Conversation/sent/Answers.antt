use Rattle.conversation.proofs.Steps.{goes_sending}
use Rattle.conversation.proofs.conversation.Conversation.sent.Goals as goal

pub returns-clause-goes : goal.returns-clause-goes
returns-clause-goes g c = λ fed given. goes_sending g.T.SessionTicket.keeping c.self.view_is fed given c.sent.new.self c.args.n c.sent.ensures.unsent
