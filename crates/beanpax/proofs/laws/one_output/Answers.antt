use Rattle.beanpax.proofs.OneTold.{one_told}
use Rattle.beanpax.proofs.laws.one_output.Goals as goal

pub returns : goal.returns
returns c = record { unique = λ profile. one_told profile (c.one_item.ensures profile) }
