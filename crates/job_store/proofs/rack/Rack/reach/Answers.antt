use Rattle.std.proofs.Common.{Some, IsSome, refl, subst, sym}
use Rattle.job_store.specs.ShelfStates.{HasReached}
use Rattle.job_store.proofs.shelving.Racks.{exact_by, changes-one}
use Rattle.job_store.proofs.rack.Rack.reach.Goals as goal

pub returns-in-Some : goal.returns-in-Some
returns-in-Some g c =
    changes-one g.K.Ord.cmp (exact_by g.K.Ord.cmp g.K.PartialEq.eq g.met.K.Ord.matches_eq g.met.K.ShelfName.exact)
    c.args.self.now.shelves (c.get_mut.follows.lender c.reach.new.self) c.args.key.now
    (Some c.in-Some.shelf.now) (Some c.reach.new.self)
    (λ old new. HasReached old new (g.N.ShelfNumber.value c.args.number, c.args.id)) (sym c.in-Some.ensures.value)
    ((c.get_mut.follows.holds c.reach.new.self).3 (subst IsSome c.in-Some.ensures.value refl)).1
    ((c.get_mut.follows.holds c.reach.new.self).3 (subst IsSome c.in-Some.ensures.value refl)).0
    c.reach.ensures
