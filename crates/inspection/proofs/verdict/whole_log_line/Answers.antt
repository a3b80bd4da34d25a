use Rattle.inspection.specs.Verdicts.{whole_log_line}
use Rattle.inspection.proofs.verdict.whole_log_line.Goals as goal

pub returns : goal.returns
unfolding whole_log_line
returns c = c.format.ensures.ok
