use Rattle.std.proofs.Common.{Some, IsSome, refl, subst, sym}
use Rattle.std.specs.Option.{unwrap_or}
use Rattle.job_store.specs.ShelfStates.{HasGained, IsFound, bare}
use Rattle.job_store.proofs.shelving.Racks.{exact_by, changes-one}
use Rattle.job_store.proofs.rack.Rack.put.Goals as goal

pub returns-in_err-put-clause-put : goal.returns-in_err-put-clause-put
returns-in_err-put-clause-put g c =
    changes-one g.K.Ord.cmp (exact_by g.K.Ord.cmp g.K.PartialEq.eq g.met.K.Ord.matches_eq g.met.K.ShelfName.exact)
    c.args.self.now.shelves (c.get_mut.follows.lender c.put.new.self) c.args.key.now
    (Some c.in-Some.shelf.now) (Some c.put.new.self)
    (λ old new. HasGained old new (g.N.ShelfNumber.value c.args.number, c.args.id)) (sym c.in-Some.ensures.value)
    ((c.get_mut.follows.holds c.put.new.self).3 (subst IsSome c.in-Some.ensures.value refl)).1
    ((c.get_mut.follows.holds c.put.new.self).3 (subst IsSome c.in-Some.ensures.value refl)).0
    c.in_err-put.ensures.gained

pub returns-in-Some-clause-ok : goal.returns-in-Some-clause-ok
returns-in-Some-clause-ok g c =
    subst (λ o. IsFound (unwrap_or o bare) (g.N.ShelfNumber.value c.args.number, c.args.id))
    (sym ((c.get_mut.follows.holds c.put.new.self).3 (subst IsSome c.in-Some.ensures.value refl)).1)
    c.in_ok-put.ensures.ok

pub returns-in-Some-clause-put : goal.returns-in-Some-clause-put
returns-in-Some-clause-put g c =
    changes-one g.K.Ord.cmp (exact_by g.K.Ord.cmp g.K.PartialEq.eq g.met.K.Ord.matches_eq g.met.K.ShelfName.exact)
    c.args.self.now.shelves (c.get_mut.follows.lender c.put.new.self) c.args.key.now
    (Some c.in-Some.shelf.now) (Some c.put.new.self)
    (λ old new. HasGained old new (g.N.ShelfNumber.value c.args.number, c.args.id)) (sym c.in-Some.ensures.value)
    ((c.get_mut.follows.holds c.put.new.self).3 (subst IsSome c.in-Some.ensures.value refl)).1
    ((c.get_mut.follows.holds c.put.new.self).3 (subst IsSome c.in-Some.ensures.value refl)).0
    c.in_ok-put.ensures.gained
