use Rattle.std.proofs.Common.{ℕ, Bor, [], ◌∷◌, ◌↔◌, IfSome, IsNone, ap, subst, ◌∙◌}
use Rattle.std.specs.BTreeSet.{BTreeSet}
use Rattle.job_store.specs.Undone.{MapState}
use Rattle.job_store.specs.Least.{NonePasses}
use Rattle.job_store.specs.LookUps.{ready_in, AreReadyPlaces}
use Rattle.job_store.proofs.readiness.Readiness.{ready-some, ready-none}
use Rattle.job_store.proofs.jobs.Jobs.ready.Goals as goal

pub returns-clause-some : goal.returns-clause-some
returns-clause-some c =
    subst (λ (m : MapState). IfSome c.places.result (λ set. AreReadyPlaces set.now.keys c.args.tube.now m.jobs)) c.self.view_is
    (ready-some c.self.inside.shelves c.self.inside.jobs c.args.tube c.self.invariant
    (ap (λ (m : MapState). m.before) c.self.view_is ∙ c.requires)
    (λ (set : Bor (BTreeSet (ℕ × ℕ))). set.now.keys) c.places.result c.places.ensures.some)

pub returns-clause-none : goal.returns-clause-none
returns-clause-none c =
    subst (λ (m : MapState). IsNone c.places.result ↔ NonePasses (ready_in (c.args.tube.now ∷ [])) m.jobs) c.self.view_is
    (ready-none c.self.inside.shelves c.self.inside.jobs c.args.tube c.self.invariant
    (ap (λ (m : MapState). m.before) c.self.view_is ∙ c.requires)
    (λ (set : Bor (BTreeSet (ℕ × ℕ))). set.now.keys) c.places.result c.places.ensures.some c.places.ensures.filled
    c.places.ensures.none)
