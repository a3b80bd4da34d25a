use Rattle.std.proofs.Common.{◌≡◌, sym, ap, ap₂, ◌∙◌}
use Rattle.std.specs.FinMap.{remove}
use Rattle.object.specs.OnceOnly.{LatestNumbers}
use Rattle.object.proofs.LatestMaps.{remove-insert}
use Rattle.object.proofs.once.Once.obey.Goals as goal

pub returns-in-Err-clause-state : goal.returns-in-Err-clause-state
returns-in-Err-clause-state g c =
    let key = c.key-session.result in
    let latest : c.forget.new.self ≡ c.self.inside.latest =
    c.forget.ensures ∙ ap (λ (m : LatestNumbers). remove m key.session) c.in_ok-set-in-None.ensures.ok.0 ∙ remove-insert
    c.self.inside.latest key.session key.number (sym c.get.ensures ∙ c.in-None.is) in
    (tt, ap₂ (λ o (l : LatestNumbers). record { object = o; latest = l }) c.in-Err.ensures.err latest ∙ c.self.view_is)
