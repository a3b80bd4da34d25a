use Rattle.chronicle_text.proofs.texts.ValuesFit.{one_value}
use Rattle.chronicle_text.proofs.laws.one_dump.Goals as goal

pub returns : goal.returns
returns c = one_value
