use Rattle.std.proofs.Common.{rules, ◌≡◌, [], refl}
use Rattle.job_store.proofs.counting.Together.{one-counted, all-counted}
use Rattle.job_store.proofs.rack.Rack.count_all.Goals as goal

pub loop-shelf-preserved : goal.loop-shelf-preserved
loop-shelf-preserved g c =
    one-counted c.args.self.now.shelves.entries c.loop-shelf.count c.count-more.result _
    (c.in-Some.field-0-0.now, c.in-Some.shelf.now) c.loop-shelf.shelf-iterator c.next.new.self (search rules)
    c.count-more.ensures.count c.count-more.ensures.apart c.saturating_add.ensures c.saturating_add-in-loop-shelf.ensures
    c.loop-shelf.invariant

pub returns : goal.returns
returns g c =
    let none : c.loop-shelf.shelf-iterator ≡ [] = search rules in
    all-counted c.args.self.now.shelves.entries g.K.Ord.cmp c.loop-shelf.count c.loop-shelf.shelf-iterator none
    c.loop-shelf.invariant c.args.self.now.shelves refl c.into_iter-shelf-iterator.ensures.into_iter_gives.5
