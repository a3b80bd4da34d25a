use Rattle.std.proofs.Common.{ℕ, ◌<◌, ◌≤◌, ⊎_elim, None, sym, ap, ◌∙◌}
use Rattle.std.specs.Option.{option_copied}
use Rattle.std.proofs.lemmas.Bool.{cases_lt}
use Rattle.world.specs.WaysOut.{Decides}
use Rattle.world.proofs.ways.Finding.{not_found, where_none}
use Rattle.world.proofs.letter_places.LetterPlaces.decision_for.Goals as goal

pub returns-clause-none : goal.returns-clause-none
returns-clause-none g c = where_none c.find_decision.result
    (λ (none : (place : ℕ) → c.args.self.now.read ≤ place
    → Decides c.args.letters.now place c.args.slot → ⊥) (place : ℕ)
    (there : Decides c.args.letters.now place c.args.slot).
    ⊎_elim
    (λ (low : place < c.args.self.now.read).
    not_found c.requires.of_decisions c.args.slot None (sym (ap option_copied c.in_default.is) ∙ c.get.ensures) place low there)
    (λ (high : c.args.self.now.read ≤ place). none place high there)
    (cases_lt place c.args.self.now.read))
    c.find_decision.ensures.none
