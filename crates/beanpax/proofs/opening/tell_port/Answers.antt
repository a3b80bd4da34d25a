use Rattle.std.proofs.Common.{◌∙◌, subst}
use Rattle.session.specs.Streams.{AppendsBeginning}
use Rattle.session.proofs.Endings.{began}
use Rattle.beanpax.proofs.opening.tell_port.Goals as goal

pub returns-clause-begins : goal.returns-clause-begins
returns-clause-begins g c =
    subst (AppendsBeginning _ _) (c.as_bytes.ensures.value ∙ c.in_ok-line.ensures.ok)
    (began c.write_all.result _ _ _ c.write_all.ensures.written.ok c.write_all.ensures.written.err)
