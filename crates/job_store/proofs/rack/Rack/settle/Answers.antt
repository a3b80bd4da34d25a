use Rattle.std.proofs.Common.{Some, IsSome, refl, subst, sym}
use Rattle.job_store.specs.Shelves.{HasMovedOn}
use Rattle.job_store.proofs.shelving.Racks.{exact_by, changes-one}
use Rattle.job_store.proofs.rack.Rack.settle.Goals as goal

pub returns-in-Some : goal.returns-in-Some
returns-in-Some g c =
    changes-one g.K.Ord.cmp (exact_by g.K.Ord.cmp g.K.PartialEq.eq g.met.K.Ord.matches_eq g.met.K.ShelfName.exact)
    c.args.self.now.shelves (c.get_mut.follows.lender c.settle.new.self) c.args.key.now
    (Some c.in-Some.shelf.now) (Some c.settle.new.self) (HasMovedOn c.args.label c.args.jobs.now.entries) (sym c.in-Some.ensures.value)
    ((c.get_mut.follows.holds c.settle.new.self).3 (subst IsSome c.in-Some.ensures.value refl)).1
    ((c.get_mut.follows.holds c.settle.new.self).3 (subst IsSome c.in-Some.ensures.value refl)).0
    c.settle.ensures
