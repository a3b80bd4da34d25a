use Rattle.std.proofs.Common.{false, refl}
use Rattle.conversation.specs.declared.stage.Stage.TheVariants.{Looking}
use Rattle.conversation.proofs.Steps.{begins}
use Rattle.conversation.proofs.conversation.Conversation.speaking.Goals as goal

pub returns-clause-begins : goal.returns-clause-begins
returns-clause-begins g c =
    begins c.args.profile g.T.SessionTicket.keeping
    (record { session = c.speaking.result; ticket = c.args.ticket; stage = Looking; has_ended = false }) c.speaking.ensures refl c.requires
