use Rattle.inspection.specs.Verdicts.{torn_log_line}
use Rattle.inspection.proofs.verdict.torn_log_line.Goals as goal

pub returns : goal.returns
unfolding torn_log_line
returns c = c.format.ensures.ok
