use Rattle.std.proofs.Common.{map, subst, sym}
use Rattle.std.specs.List.Sorted.{IsStrictlySortedBy}
use Rattle.object.specs.Lists.{In}
use Rattle.job_store.specs.ShelfStates.{ShelfState, numbered_place, IsFrom}
use Rattle.job_store.proofs.shelving.Places.{shelf_cmp, begins-with, first-from}
use Rattle.job_store.proofs.shelving.Numbered.{sorted-of}
use Rattle.job_store.proofs.shelf.Shelf.first_place.Goals as goal

pub returns-then-is_behind : goal.returns-then-is_behind
returns-then-is_behind g c p f = subst (λ (s : ShelfState). IsFrom s.from p) (sym c.self.view_is) f.1

pub returns : goal.returns
returns g c p f =
    let value = g.N.ShelfNumber.value in
    let keys = c.self.inside.places.keys in
    let place = c.in_ok-place.place.now in
    let begun = begins-with place keys c.in_ok-place.ensures.first in
    first-from (numbered_place value place) p (map (numbered_place value) begun.0)
    (subst (λ ks. IsStrictlySortedBy shelf_cmp (map (numbered_place value) ks)) begun.1
    (sorted-of g.N.Ord.cmp value g.met.N.ShelfNumber.in_order keys c.len.ensures.ordered))
    (subst (λ ks. In p (map (numbered_place value) ks)) begun.1
    (subst (λ (s : ShelfState). In p s.places) (sym c.self.view_is) f.0))
