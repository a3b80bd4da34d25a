use Rattle.conversation.proofs.Steps.{goes_leaving}
use Rattle.conversation.proofs.conversation.Conversation.leave.Goals as goal

pub returns-clause-goes : goal.returns-clause-goes
returns-clause-goes g c = λ fed given. goes_leaving g.T.SessionTicket.keeping c.self.view_is fed given c.leave.new.self c.leave.ensures
