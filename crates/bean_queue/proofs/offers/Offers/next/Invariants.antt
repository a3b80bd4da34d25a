use Rattle.std.proofs.Common.{length}
use Rattle.std.specs.Map.{keys_of}
use Rattle.session_store.specs.Fronts.{AreFronts}
use Rattle.bean_queue.specs.Offers.{HasOffers}
use Rattle.bean_queue.specs.Woken.{has_taker}
use Rattle.bean_queue.proofs.offers.Offers.next.Given as goal

abbrev pub invariant-offers : goal.invariant-offers
invariant-offers g l = record {
  offers : HasOffers l.self (has_taker (keys_of l.pauses.now.pauses) l.sessions.now) (g.M.JobMap.entries l.jobs);
  fronts : AreFronts l.fronts l.sessions.now;
}

abbrev pub decreases-offers : goal.decreases-offers
decreases-offers g l = length l.self.places.keys
