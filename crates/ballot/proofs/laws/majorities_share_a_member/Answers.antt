use Rattle.ballot.proofs.Majorities.{share}
use Rattle.ballot.proofs.laws.majorities_share_a_member.Goals as goal

pub returns : goal.returns
returns c = share
