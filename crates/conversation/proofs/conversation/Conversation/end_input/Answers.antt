use Rattle.conversation.proofs.Steps.{goes_ending}
use Rattle.conversation.proofs.conversation.Conversation.end_input.Goals as goal

pub returns-clause-goes : goal.returns-clause-goes
returns-clause-goes g c = λ fed given. goes_ending g.T.SessionTicket.keeping c.self.view_is fed given c.end_input.new.self c.end_input.ensures
