use Rattle.std.proofs.Common.{◌≡◌, map, subst, sym, ◌∙◌}
use Rattle.std.proofs.lemmas.List.{length-map}
use Rattle.job_store.specs.Counts.{count_of, is_low, AreApart}
use Rattle.job_store.specs.ShelfStates.{ShelfState, numbered_place}
use Rattle.job_store.proofs.counting.Apart.{apart-sorted}
use Rattle.job_store.proofs.counting.Counted.{same-count}
use Rattle.job_store.proofs.counting.Passing.{length-filter-map}
use Rattle.job_store.proofs.shelving.Numbered.{sorted-of}
use Rattle.job_store.proofs.shelf.Shelf.count.Goals as goal

pub returns-clause-count : goal.returns-clause-count
returns-clause-count g c =
    let shown = numbered_place g.N.ShelfNumber.value in
    subst (λ (s : ShelfState). record { all = c.len.result; low = c.self.inside.low } ≡ count_of s.places) c.self.view_is
    (same-count _ (count_of (map shown c.self.inside.places.keys))
    (c.len.ensures.len ∙ sym (length-map c.self.inside.places.keys shown))
    (c.self.invariant ∙ sym (length-filter-map shown is_low c.self.inside.places.keys)))

pub returns-clause-apart : goal.returns-clause-apart
returns-clause-apart g c =
    subst (λ (s : ShelfState). AreApart s.places) c.self.view_is
    (apart-sorted (map (numbered_place g.N.ShelfNumber.value) c.self.inside.places.keys)
    (sorted-of g.N.Ord.cmp g.N.ShelfNumber.value g.met.N.ShelfNumber.in_order c.self.inside.places.keys c.len.ensures.ordered))
