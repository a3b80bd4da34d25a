use Rattle.chronicle_text.proofs.texts.OneChronicle.{one_chronicle}
use Rattle.chronicle_text.proofs.laws.one_chronicle.Goals as goal

pub returns : goal.returns
returns c = one_chronicle
