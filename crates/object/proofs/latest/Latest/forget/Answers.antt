use Rattle.std.proofs.Common.{ap, ◌∙◌}
use Rattle.std.specs.FinMap.{remove}
use Rattle.object.specs.OnceOnly.{LatestNumbers}
use Rattle.object.proofs.LatestMaps.{taken_at}
use Rattle.object.proofs.latest.Latest.forget.Goals as goal

pub returns : goal.returns
returns c = taken_at c.self.inside.numbers.entries _ c.args.session c.remove.ensures.updates.0 ∙ ap
    (λ (m : LatestNumbers). remove m c.args.session) c.self.view_is
