use Rattle.world.specs.WaysOut.{ArePlaces}
use Rattle.world.proofs.letter_places.LetterPlaces.read_on.Given as goal

abbrev pub invariant-loop-place : goal.invariant-loop-place
invariant-loop-place g l = ArePlaces l.letters l.place l.self
