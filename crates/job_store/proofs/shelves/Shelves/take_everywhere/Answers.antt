use Rattle.job_store.specs.Spots.{at_spot}
use Rattle.job_store.proofs.shelving.Everywhere.{taken-twice, reach-taken, gone-everywhere}
use Rattle.job_store.proofs.shelves.Shelves.take_everywhere.Goals as goal

pub returns-clause-taken : goal.returns-clause-taken
returns-clause-taken c =
    taken-twice (taken-twice (taken-twice (taken-twice (taken-twice c.take_from.ensures.taken
    c.take_from-2.ensures.taken) c.take_from-3.ensures.taken) c.take_from-4.ensures.taken)
    c.take_from-5.ensures.taken) c.take_from-6.ensures.taken

pub returns-clause-gone : goal.returns-clause-gone
returns-clause-gone c =
    gone-everywhere c.take_from.new.self c.take_from-2.new.self c.take_from-3.new.self c.take_from-4.new.self
    c.take_from-5.new.self c.take_from-6.new.self c.args.jobs.now.entries c.args.id
    (at_spot c.args.spot.now) c.holder.result c.holder.ensures c.take_from.ensures.gone c.take_from-2.ensures.gone
    c.take_from-3.ensures.gone c.take_from-4.ensures.gone c.take_from-5.ensures.gone c.take_from-6.ensures.gone
    c.take_from-2.ensures.taken c.take_from-3.ensures.taken c.take_from-4.ensures.taken c.take_from-5.ensures.taken
    c.take_from-6.ensures.taken

pub take_from-requires-2 : goal.take_from-requires-2
take_from-requires-2 c = reach-taken c.take_from.ensures.taken c.requires

pub take_from-requires-3 : goal.take_from-requires-3
take_from-requires-3 c = reach-taken c.take_from-2.ensures.taken (reach-taken c.take_from.ensures.taken c.requires)

pub take_from-requires-4 : goal.take_from-requires-4
take_from-requires-4 c =
    reach-taken c.take_from-3.ensures.taken (reach-taken c.take_from-2.ensures.taken (reach-taken c.take_from.ensures.taken c.requires))

pub take_from-requires-5 : goal.take_from-requires-5
take_from-requires-5 c =
    reach-taken c.take_from-4.ensures.taken
    (reach-taken c.take_from-3.ensures.taken (reach-taken c.take_from-2.ensures.taken (reach-taken c.take_from.ensures.taken c.requires)))

pub take_from-requires-6 : goal.take_from-requires-6
take_from-requires-6 c =
    reach-taken c.take_from-5.ensures.taken (reach-taken c.take_from-4.ensures.taken
    (reach-taken c.take_from-3.ensures.taken (reach-taken c.take_from-2.ensures.taken (reach-taken c.take_from.ensures.taken c.requires))))
