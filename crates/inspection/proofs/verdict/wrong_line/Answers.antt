use Rattle.inspection.specs.Verdicts.{wrong_line}
use Rattle.inspection.proofs.verdict.wrong_line.Goals as goal

pub returns : goal.returns
unfolding wrong_line
returns c = c.format.ensures.ok
