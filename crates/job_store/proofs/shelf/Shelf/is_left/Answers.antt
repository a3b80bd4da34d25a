use Rattle.std.proofs.Common.{◌≡◌, true, false, subst, sym}
use Rattle.object.specs.Lists.{In}
use Rattle.job_store.specs.ShelfStates.{ShelfState, numbered_place}
use Rattle.job_store.proofs.shelving.Places.{from-before}
use Rattle.job_store.proofs.shelving.Numbered.{up-to-of}
use Rattle.job_store.proofs.shelf.Shelf.is_left.Goals as goal

pub returns-in-Some : goal.returns-in-Some
returns-in-Some g c behind p f =
    let value = g.N.ShelfNumber.value in
    let last = c.in-Some.last.now in
    c.is_behind.ensures behind
    (from-before c.args.self.now.from p (numbered_place value last)
    (up-to-of g.N.Ord.cmp value g.met.N.ShelfNumber.in_order last p c.self.inside.places.keys c.in-Some.ensures.all_up_to
    (subst (λ (s : ShelfState). In p s.places) (sym c.self.view_is) f.0)) f.1)

pub returns-in-None : goal.returns-in-None
returns-in-None g c never p f = let nothing : false ≡ true = never in cc
