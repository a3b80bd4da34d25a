use Rattle.std.proofs.Common.{◌∙◌, sym}
use Rattle.ballot.specs.Exact.{pointwise_exact}
use Rattle.recovery.proofs.recovery.are_same.Goals as goal

pub returns : goal.returns
returns g c = λ is. pointwise_exact g.met.V.Value.exact _ _ (sym c.eq.ensures ∙ is)
