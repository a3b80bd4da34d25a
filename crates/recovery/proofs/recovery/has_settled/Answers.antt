use Rattle.std.proofs.Common.{sym, ◌∙◌}
use Rattle.recovery.proofs.Live.{are_equal}
use Rattle.recovery.proofs.recovery.has_settled.Goals as goal

pub returns : goal.returns
returns g c = λ is members told t.
    t.shown.summary.submitted ∙ sym (c.submitted_count.ensures t.world t.shown) ∙ are_equal _ _ is ∙ c.placed_count.ensures.count
