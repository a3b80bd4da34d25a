use Rattle.std.proofs.Common.{sym, ap, ◌∙◌}
use Rattle.std.specs.FinMap.{get}
use Rattle.object.specs.OnceOnly.{LatestNumbers}
use Rattle.object.proofs.LatestMaps.{get_at}
use Rattle.object.proofs.latest.Latest.get.Goals as goal

pub returns : goal.returns
returns c =
    c.copied.ensures ∙ c.get.ensures.value ∙ sym (get_at c.self.inside.numbers.entries c.args.session) ∙ ap
    (λ (m : LatestNumbers). get m c.args.session) c.self.view_is
