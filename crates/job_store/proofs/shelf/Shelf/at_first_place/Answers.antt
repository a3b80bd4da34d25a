use Rattle.std.proofs.Common.{subst}
use Rattle.job_store.specs.Shelves.{BelongsAt}
use Rattle.job_store.specs.ShelfStates.{numbered_place}
use Rattle.job_store.proofs.shelving.Places.{from-is-least}
use Rattle.job_store.proofs.shelf.Shelf.at_first_place.Goals as goal

pub returns : goal.returns
returns g c =
    let place = c.in_ok-place.place in
    from-is-least c.args.label (numbered_place g.N.ShelfNumber.value place) c.args.jobs.now.entries
    (place.1, c.in_ok-job.job.now)
    (λ p d j b. c.in_ok-place.ensures p (c.requires.all p d j b))
    c.in_ok-job.ensures.found.0
    (subst (λ n. BelongsAt c.args.label (n, place.1) (place.1, c.in_ok-job.job.now)) c.wide.ensures c.in_ok-job.ensures.found.1)
