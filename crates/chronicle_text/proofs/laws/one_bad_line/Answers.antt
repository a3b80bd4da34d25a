use Rattle.chronicle_text.proofs.stops.OneBadLine.{one_bad_line}
use Rattle.chronicle_text.proofs.laws.one_bad_line.Goals as goal

pub returns : goal.returns
returns c = one_bad_line
