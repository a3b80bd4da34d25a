use Rattle.chronicle.proofs.verdicts.Faultless.{legal_is_faultless}
use Rattle.chronicle.proofs.laws.legal_is_faultless.Goals as goal

pub returns : goal.returns
returns c = legal_is_faultless
