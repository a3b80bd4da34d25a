use Rattle.std.proofs.Common.{ℕ, ◌<◌, ◌∙◌, arith}
use Rattle.world.specs.WaysOut.{Proposes}
use Rattle.world.proofs.ways.Finding.{not_found, where_none}
use Rattle.world.proofs.ways.LetterTests.{is_sent}
use Rattle.world.proofs.letter_places.LetterPlaces.proposal_for.Goals as goal

pub returns-clause-none : goal.returns-clause-none
returns-clause-none g c = where_none c.copied.result
    (λ (none : (j : ℕ) → j < c.args.self.now.read
    → Proposes c.args.letters.now j c.args.slot → ⊥) (place : ℕ)
    (there : Proposes c.args.letters.now place c.args.slot).
    let within = is_sent there in let all = c.requires.all in none place (omega arith) there)
    (not_found c.requires.found.of_proposals c.args.slot c.copied.result (c.copied.ensures ∙ c.get.ensures))
