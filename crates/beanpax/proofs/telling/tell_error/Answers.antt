use Rattle.std.proofs.Common.{subst}
use Rattle.beanpax.specs.Program.{WritesText}
use Rattle.beanpax.proofs.Tellings.{writes_text}
use Rattle.beanpax.proofs.telling.tell_error.Goals as goal

pub returns : goal.returns
returns g c =
    subst (WritesText _ _ _) c.as_bytes.ensures.value
    (writes_text c.write_all.result _ _ _ _ c.write_all.ensures.written.ok c.write_all.ensures.written.err c.write_all.ensures.written.failed)
