use Rattle.command_log.proofs.OneLog.{one_text}
use Rattle.command_log.proofs.laws.one_log.Goals as goal

pub returns : goal.returns
returns c = one_text
