use Rattle.std.proofs.Common.{refl, sym, ◌∙◌}
use Rattle.job_store.proofs.shelving.Places.{at-test, not-at}
use Rattle.job_store.proofs.label.Label.fits_at.Goals as goal

pub returns-then-fits : goal.returns-then-fits
returns-then-fits c id =
    at-test c.args.self.now c.args.number id c.number.result c.args.job.now
    (sym (c.fits.ensures id c.args.job.now refl refl) ∙ c.if-fits.true)
    (c.number.ensures c.args.job.now refl refl)

pub returns-else-fits : goal.returns-else-fits
returns-else-fits c id =
    c.if-fits.false ∙
    not-at c.args.self.now c.args.number id c.args.job.now (sym (c.fits.ensures id c.args.job.now refl refl) ∙ c.if-fits.false)
