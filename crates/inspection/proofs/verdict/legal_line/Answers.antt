use Rattle.inspection.specs.Verdicts.{legal_line}
use Rattle.inspection.proofs.verdict.legal_line.Goals as goal

pub returns : goal.returns
unfolding legal_line
returns c = c.format.ensures.ok
