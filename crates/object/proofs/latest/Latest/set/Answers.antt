use Rattle.std.proofs.Common.{◌≡◌, ℕ, sym, ap, subst, ◌∙◌, None, IsSome, true≢false}
use Rattle.std.specs.FinMap.{get, insert}
use Rattle.object.specs.OnceOnly.{LatestNumbers}
use Rattle.object.proofs.LatestMaps.{get_at, put_at}
use Rattle.object.proofs.latest.Latest.set.Goals as goal

pub returns-in_err-insert-clause-known : goal.returns-in_err-insert-clause-known
returns-in_err-insert-clause-known c =
    λ known.
    let absent : get c.args.self.now c.args.session ≡ None =
    ap (λ (m : LatestNumbers). get m c.args.session)
    (sym c.self.view_is) ∙ get_at c.self.inside.numbers.entries c.args.session ∙ c.in_err-insert.ensures.absent in
    let some : IsSome {T = ℕ} None = subst IsSome absent known in absurd (true≢false (sym some))

pub returns-clause-ok : goal.returns-clause-ok
returns-clause-ok c = (
  put_at c.self.inside.numbers.entries _ c.args.session c.args.number c.in_ok-insert.ensures.updates.0 ∙ ap
      (λ (m : LatestNumbers). insert m c.args.session c.args.number) c.self.view_is,
  tt,
)
