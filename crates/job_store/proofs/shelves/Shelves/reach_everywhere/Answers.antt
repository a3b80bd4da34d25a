use Rattle.job_store.specs.Spots.{at_spot}
use Rattle.job_store.specs.ShelfStates.{IsFrom}
use Rattle.job_store.proofs.shelving.Everywhere.{back-twice, everywhere}
use Rattle.job_store.proofs.shelves.Shelves.reach_everywhere.Goals as goal

pub returns-clause-back : goal.returns-clause-back
returns-clause-back c =
    back-twice (back-twice (back-twice (back-twice (back-twice c.reach_on.ensures.back c.reach_on-2.ensures.back)
    c.reach_on-3.ensures.back) c.reach_on-4.ensures.back) c.reach_on-5.ensures.back) c.reach_on-6.ensures.back

pub returns-clause-ahead : goal.returns-clause-ahead
returns-clause-ahead c =
    everywhere (λ x p. IsFrom x.from p) c.reach_on.new.self c.reach_on-2.new.self c.reach_on-3.new.self
    c.reach_on-4.new.self c.reach_on-5.new.self c.reach_on-6.new.self c.args.id
    (at_spot c.args.spot.now) c.holder.result c.holder.ensures c.reach_on.ensures.reached
    c.reach_on-2.ensures.reached c.reach_on-3.ensures.reached c.reach_on-4.ensures.reached
    c.reach_on-5.ensures.reached c.reach_on-6.ensures.reached
    c.reach_on-2.ensures.back.ahead c.reach_on-3.ensures.back.ahead c.reach_on-4.ensures.back.ahead
    c.reach_on-5.ensures.back.ahead c.reach_on-6.ensures.back.ahead
