use Rattle.std.proofs.Common.{drop}
use Rattle.std.specs.Map.{keys_of}
use Rattle.session_store.specs.Fronts.{AreFronts}
use Rattle.bean_queue.specs.Woken.{has_taker}
use Rattle.bean_queue.proofs.best.Offering.{AreGathered}
use Rattle.bean_queue.proofs.offers.offers_of.Given as goal

abbrev pub invariant-loop-tube : goal.invariant-loop-tube
invariant-loop-tube g l = record {
  gathered : AreGathered l.offers (has_taker (keys_of l.pauses.now.pauses) l.sessions.now) (g.M.JobMap.entries l.jobs)
      (drop l.tube-index l.tubes);
  fronts : AreFronts l.fronts l.sessions.now;
}
