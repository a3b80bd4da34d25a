use Rattle.std.proofs.Common.{refl, sym, ◌∙◌}
use Rattle.job_store.specs.Spots.{at_spot}
use Rattle.job_store.proofs.shelves.Shelves.take_from.Goals as goal

pub returns-then-is_taken-clause-gone : goal.returns-then-is_taken-clause-gone
returns-then-is_taken-clause-gone c p i b = c.is_taken.ensures.yes c.if-is_taken.true p b

pub take_off-requires : goal.take_off-requires
take_off-requires c = sym (c.fits.ensures c.args.id (at_spot c.args.spot.now) refl refl) ∙ c.if-not-fits.false

pub returns-clause-taken : goal.returns-clause-taken
returns-clause-taken c = c.take_off.ensures.taken c.args.jobs.now.entries c.requires.ahead (c.is_taken.ensures.no c.if-is_taken.false)

pub returns-clause-gone : goal.returns-clause-gone
returns-clause-gone c p i b = absurd (c.take_off.ensures.gone p i b)
