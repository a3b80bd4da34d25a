use Rattle.std.proofs.Common.{◌∙◌, ap}
use Rattle.job_store.specs.LookUps.{is_among}
use Rattle.session_store.proofs.lines.Lines.join.Goals as goal

pub returns-clause-stands : goal.returns-clause-stands
returns-clause-stands c = (c.in_ok-join.ensures.stands, λ tube among. c.in_ok-join-2.ensures.stands tube (ap (is_among tube) c.as_slice.ensures ∙ among))
