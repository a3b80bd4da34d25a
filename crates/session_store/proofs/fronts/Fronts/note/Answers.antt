use Rattle.std.proofs.Common.{◌≡◌, ◌⊎◌, ℕ, List, subst}
use Rattle.session_store.specs.Fronts.{front_of}
use Rattle.session_store.proofs.Served.{front-noted}
use Rattle.session_store.proofs.fronts.Fronts.note.Goals as goal

pub returns-in-Ok : goal.returns-in-Ok
returns-in-Ok c =
    subst (λ tube. (t : List ℕ) → (front_of t (record { places = c.insert.new.self }) ≡ front_of t c.args.self.now)
    ⊎ ((t ≡ tube) × (front_of t (record { places = c.insert.new.self }) ≡ c.args.place))) c.in-Ok.ensures
    (λ t. front-noted c.in-Ok.name t c.args.place c.args.self.now (record { places = c.insert.new.self }) c.insert.result
    c.insert.ensures.updates c.insert.ensures.err)
