use Rattle.std.proofs.Common.{◌∙◌}
use Rattle.world.proofs.steps.Watching.{same_shows}
use Rattle.world.proofs.watched.Watched.copy.Goals as goal

pub invariant_of-result : goal.invariant_of-result
invariant_of-result g c = same_shows c.self.inside.node _ c.self.inside.accepted.items _ c.in_ok-copy.ensures
    (c.in_ok-copies_of.ensures ∙ c.deref.ensures.value) c.self.invariant
