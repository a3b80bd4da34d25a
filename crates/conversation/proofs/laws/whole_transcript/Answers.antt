use Rattle.conversation.proofs.Transcripts.{whole_transcript}
use Rattle.conversation.proofs.laws.whole_transcript.Goals as goal

pub returns : goal.returns
returns g c = whole_transcript g.T.SessionTicket.keeping
