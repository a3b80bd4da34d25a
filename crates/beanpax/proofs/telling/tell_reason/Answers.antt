use Rattle.beanpax.proofs.Tellings.{writes_text}
use Rattle.beanpax.proofs.telling.tell_reason.Goals as goal

pub returns : goal.returns
returns g c =
    let told = c.write_reason.ensures in
    writes_text c.write_reason.result _ _ _ _ told.ok told.err told.failed
