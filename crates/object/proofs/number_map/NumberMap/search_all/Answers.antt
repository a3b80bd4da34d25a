use Rattle.std.proofs.Common.{rules}
use Rattle.std.proofs.lemmas.List.Sorted.{answers_always}
use Rattle.object.proofs.NumberMaps.{searched}
use Rattle.object.proofs.number_map.NumberMap.search_all.Goals as goal

-- the closure gives a pair's number, and the slice has the map's pairs
pub returns : goal.returns
returns g c =
    let facts = c.binary_search_by_key.ensures in
    let by_number = facts.position (λ pair. pair.0) (answers_always _ _ _ (λ f a r g called. search rules)) in
    rw (← c.self.view_is, ← c.deref.ensures.value) (searched _ (rw c.deref.ensures.value c.self.invariant) c.args.number _ facts.bound by_number)
