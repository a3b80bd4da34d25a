use Rattle.std.proofs.Common.{◌+◌, sym, subst}
use Rattle.ballot.specs.declared.letter.LetterBody.TheVariants.{Propose, Decision}
use Rattle.world.specs.WaysOut.{ArePlacesOf}
use Rattle.world.proofs.ways.Finding.{places_more}
use Rattle.world.proofs.ways.LetterTests.{tests_proposals, tests_decisions}
use Rattle.world.proofs.letter_places.LetterPlaces.read_one.Goals as goal

pub returns-clause-read : goal.returns-clause-read
returns-clause-read g c = record {
  of_proposals = subst (ArePlacesOf Propose c.args.letters.now (c.args.place + 1)) (sym c.in_ok-note.ensures)
      (places_more c.requires.before.of_proposals tests_proposals c.requires.within c.index-letters-place.is
      c.proposed_slot.result c.proposed_slot.ensures.some c.proposed_slot.ensures.none);
  of_decisions = subst (ArePlacesOf Decision c.args.letters.now (c.args.place + 1)) (sym c.in_ok-note-2.ensures)
      (places_more c.requires.before.of_decisions tests_decisions c.requires.within c.index-letters-place.is
      c.decided_slot.result c.decided_slot.ensures.some c.decided_slot.ensures.none);
}
