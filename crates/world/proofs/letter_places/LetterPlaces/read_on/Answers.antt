use Rattle.std.proofs.Common.{refl}
use Rattle.world.proofs.ways.Finding.{finds_fewer}
use Rattle.world.proofs.letter_places.LetterPlaces.read_on.Goals as goal

pub returns : goal.returns
returns g c = record {
  all = refl;
  found = record {
    of_proposals = finds_fewer c.loop-place.invariant.of_proposals c.loop-place-test.false;
    of_decisions = finds_fewer c.loop-place.invariant.of_decisions c.loop-place-test.false;
  };
}
