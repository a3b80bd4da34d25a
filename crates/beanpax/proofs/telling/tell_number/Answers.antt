use Rattle.beanpax.proofs.Tellings.{writes_text}
use Rattle.beanpax.proofs.telling.tell_number.Goals as goal

pub returns : goal.returns
returns g c =
    let told = c.write_number.ensures in
    writes_text c.write_number.result _ _ _ _ told.ok told.err told.failed
