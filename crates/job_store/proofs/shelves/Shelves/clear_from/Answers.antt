use Rattle.std.proofs.Common.{refl, sym, ◌∙◌}
use Rattle.job_store.specs.Spots.{at_spot}
use Rattle.job_store.proofs.shelving.Shelving.{alone-without}
use Rattle.job_store.proofs.shelves.Shelves.clear_from.Goals as goal

pub take_off-requires : goal.take_off-requires
take_off-requires c = sym (c.fits.ensures c.args.id (at_spot c.args.spot.now) refl refl) ∙ c.if-fits.true

pub returns-then-fits-clause-taken : goal.returns-then-fits-clause-taken
returns-then-fits-clause-taken c jobs ahead lacks =
    c.take_off.ensures.taken jobs ahead (alone-without c.args.label c.args.id (at_spot c.args.spot.now) jobs lacks)
