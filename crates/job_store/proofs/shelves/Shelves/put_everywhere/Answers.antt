use Rattle.job_store.specs.ShelfStates.{IsFound}
use Rattle.job_store.specs.Spots.{at_spot}
use Rattle.job_store.proofs.shelving.Everywhere.{put-twice, found-put, come-found, everywhere}
use Rattle.job_store.proofs.shelves.Shelves.put_everywhere.Goals as goal

pub returns-in_err-put_on-2-clause-put : goal.returns-in_err-put_on-2-clause-put
returns-in_err-put_on-2-clause-put c =
    put-twice c.in_ok-put_on.ensures.put c.in_err-put_on-2.ensures.put

pub returns-in_err-put_on-3-clause-put : goal.returns-in_err-put_on-3-clause-put
returns-in_err-put_on-3-clause-put c =
    put-twice (put-twice c.in_ok-put_on.ensures.put c.in_ok-put_on-2.ensures.put) c.in_err-put_on-3.ensures.put

pub returns-in_err-put_on-4-clause-put : goal.returns-in_err-put_on-4-clause-put
returns-in_err-put_on-4-clause-put c =
    put-twice (put-twice (put-twice c.in_ok-put_on.ensures.put c.in_ok-put_on-2.ensures.put)
    c.in_ok-put_on-3.ensures.put) c.in_err-put_on-4.ensures.put

pub returns-in_err-put_on-5-clause-put : goal.returns-in_err-put_on-5-clause-put
returns-in_err-put_on-5-clause-put c =
    put-twice (put-twice (put-twice (put-twice c.in_ok-put_on.ensures.put c.in_ok-put_on-2.ensures.put)
    c.in_ok-put_on-3.ensures.put) c.in_ok-put_on-4.ensures.put) c.in_err-put_on-5.ensures.put

pub returns-in_err-put_on-6-clause-put : goal.returns-in_err-put_on-6-clause-put
returns-in_err-put_on-6-clause-put c =
    put-twice (put-twice (put-twice (put-twice (put-twice c.in_ok-put_on.ensures.put c.in_ok-put_on-2.ensures.put)
    c.in_ok-put_on-3.ensures.put) c.in_ok-put_on-4.ensures.put) c.in_ok-put_on-5.ensures.put)
    c.in_err-put_on-6.ensures.put

pub returns-clause-put : goal.returns-clause-put
returns-clause-put c =
    put-twice (put-twice (put-twice (put-twice (put-twice c.in_ok-put_on.ensures.put c.in_ok-put_on-2.ensures.put)
    c.in_ok-put_on-3.ensures.put) c.in_ok-put_on-4.ensures.put) c.in_ok-put_on-5.ensures.put)
    c.in_ok-put_on-6.ensures.put

pub returns-clause-come : goal.returns-clause-come
returns-clause-come c =
    come-found c.put_on-6.new.self (c.args.id, at_spot c.args.spot.now)
    (everywhere (λ x p. IsFound x p) c.put_on.new.self c.put_on-2.new.self c.put_on-3.new.self c.put_on-4.new.self
    c.put_on-5.new.self c.put_on-6.new.self c.args.id
    (at_spot c.args.spot.now) c.holder.result c.holder.ensures c.in_ok-put_on.ensures.ok c.in_ok-put_on-2.ensures.ok
    c.in_ok-put_on-3.ensures.ok c.in_ok-put_on-4.ensures.ok c.in_ok-put_on-5.ensures.ok c.in_ok-put_on-6.ensures.ok
    (found-put c.put_on.new.self c.put_on-2.new.self (c.args.id, at_spot c.args.spot.now) c.in_ok-put_on-2.ensures.put)
    (found-put c.put_on-2.new.self c.put_on-3.new.self
    (c.args.id, at_spot c.args.spot.now) c.in_ok-put_on-3.ensures.put)
    (found-put c.put_on-3.new.self c.put_on-4.new.self
    (c.args.id, at_spot c.args.spot.now) c.in_ok-put_on-4.ensures.put)
    (found-put c.put_on-4.new.self c.put_on-5.new.self
    (c.args.id, at_spot c.args.spot.now) c.in_ok-put_on-5.ensures.put)
    (found-put c.put_on-5.new.self c.put_on-6.new.self
    (c.args.id, at_spot c.args.spot.now) c.in_ok-put_on-6.ensures.put))
