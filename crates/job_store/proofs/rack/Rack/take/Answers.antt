use Rattle.std.proofs.Common.{Some, None, IsSome, refl, subst, sym}
use Rattle.job_store.specs.ShelfStates.{HasLost}
use Rattle.job_store.proofs.shelving.Places.{lost-all}
use Rattle.job_store.proofs.shelving.Racks.{exact_by, changes-one, takes-one}
use Rattle.job_store.proofs.rack.Rack.take.Goals as goal

pub returns-else-is_empty : goal.returns-else-is_empty
returns-else-is_empty g c =
    changes-one g.K.Ord.cmp (exact_by g.K.Ord.cmp g.K.PartialEq.eq g.met.K.Ord.matches_eq g.met.K.ShelfName.exact)
    c.args.self.now.shelves (c.get_mut.follows.lender c.take.new.self) c.args.key.now
    (Some c.in-Some.shelf.now) (Some c.take.new.self)
    (λ old new. HasLost old new (g.N.ShelfNumber.value c.args.number, c.args.id)) (sym c.in-Some.ensures.value)
    ((c.get_mut.follows.holds c.take.new.self).3 (subst IsSome c.in-Some.ensures.value refl)).1
    ((c.get_mut.follows.holds c.take.new.self).3 (subst IsSome c.in-Some.ensures.value refl)).0
    c.take.ensures

pub returns-then-is_empty : goal.returns-then-is_empty
returns-then-is_empty g c =
    takes-one g.K.Ord.cmp (exact_by g.K.Ord.cmp g.K.PartialEq.eq g.met.K.Ord.matches_eq g.met.K.ShelfName.exact)
    c.args.self.now.shelves (c.get_mut.follows.lender c.take.new.self) c.remove.new.self c.args.key.now
    (Some c.in-Some.shelf.now) (Some c.take.new.self) None (λ old new. HasLost old new (g.N.ShelfNumber.value c.args.number, c.args.id))
    (sym c.in-Some.ensures.value) c.remove.ensures.updates.1
    ((c.get_mut.follows.holds c.take.new.self).3 (subst IsSome c.in-Some.ensures.value refl)).0
    c.remove.ensures.updates.0
    (lost-all c.in-Some.shelf.now c.take.new.self (g.N.ShelfNumber.value c.args.number, c.args.id) c.take.ensures (c.is_empty.ensures c.if-is_empty.true))
