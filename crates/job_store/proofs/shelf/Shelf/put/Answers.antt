use Rattle.std.proofs.Common.{ℕ, map, ap, ◌∙◌, arith}
use Rattle.std.specs.BTreeSet.{insert_key}
use Rattle.job_store.specs.Counts.{is_low}
use Rattle.job_store.specs.ShelfStates.{ShelfState, numbered_place}
use Rattle.job_store.proofs.counting.Passing.{put-counts, passes-le}
use Rattle.job_store.proofs.shelving.Numbered.{put-of}
use Rattle.job_store.proofs.shelving.Places.{shelf_cmp, gained-by, gained-none, found-by}
use Rattle.job_store.proofs.shelf.Shelf.put.Goals as goal

pub returns-clause-ok : goal.returns-clause-ok
returns-clause-ok g c =
    found-by c.args.self.now (record {
      places =
          map (numbered_place g.N.ShelfNumber.value) c.insert.new.self.keys;
      from =
          numbered_place g.N.ShelfNumber.value c.self.inside.from;
    }) c.reach.new.self
    (g.N.ShelfNumber.value c.args.number, c.args.id)
    (ap (map (numbered_place g.N.ShelfNumber.value)) c.in_ok-is_new.ensures.keys ∙ put-of g.N.Ord.cmp
    g.N.ShelfNumber.value g.met.N.ShelfNumber.in_order (c.args.number, c.args.id) c.self.inside.places.keys ∙ ap
    (λ (s : ShelfState). insert_key shelf_cmp s.places (g.N.ShelfNumber.value c.args.number, c.args.id))
    c.self.view_is)
    c.reach.ensures

pub returns-clause-gained : goal.returns-clause-gained
returns-clause-gained g c =
    gained-by c.args.self.now (record {
      places =
          map (numbered_place g.N.ShelfNumber.value) c.insert.new.self.keys;
      from =
          numbered_place g.N.ShelfNumber.value c.self.inside.from;
    }) c.reach.new.self
    (g.N.ShelfNumber.value c.args.number, c.args.id)
    (ap (map (numbered_place g.N.ShelfNumber.value)) c.in_ok-is_new.ensures.keys ∙ put-of g.N.Ord.cmp
    g.N.ShelfNumber.value g.met.N.ShelfNumber.in_order (c.args.number, c.args.id) c.self.inside.places.keys ∙ ap
    (λ (s : ShelfState). insert_key shelf_cmp s.places (g.N.ShelfNumber.value c.args.number, c.args.id))
    c.self.view_is)
    (ap (λ (s : ShelfState). s.from) c.self.view_is) c.reach.ensures

pub returns-in_err-is_new-clause-gained : goal.returns-in_err-is_new-clause-gained
returns-in_err-is_new-clause-gained g c =
    gained-none c.args.self.now (record {
      places =
          map (numbered_place g.N.ShelfNumber.value) c.insert.new.self.keys;
      from =
          numbered_place g.N.ShelfNumber.value c.self.inside.from;
    }) (g.N.ShelfNumber.value c.args.number, c.args.id)
    (ap (map (numbered_place g.N.ShelfNumber.value)) c.in_err-is_new.ensures.err ∙ ap (λ (s : ShelfState). s.places) c.self.view_is)
    (ap (λ (s : ShelfState). s.from) c.self.view_is)

pub overflow_add-self : goal.overflow_add-self
overflow_add-self g c =
    let low = λ (p : g.row.N.Denot × ℕ). is_low (numbered_place g.N.ShelfNumber.value p) in
    let now = put-counts low _ (c.args.number, c.args.id) c.self.inside.places.keys c.insert.new.self.keys c.in_ok-is_new.is_new
    c.in_ok-is_new.ensures.keys c.in_ok-is_new.ensures.len c.in_ok-is_new.ensures.unchanged in
    omega (arith, now, c.self.invariant, c.low_change.ensures, passes-le low c.insert.new.self.keys, c.len.ensures.len, c.len.ensures.small)

pub invariant_of-self-2 : goal.invariant_of-self-2
invariant_of-self-2 g c =
    let low = λ (p : g.row.N.Denot × ℕ). is_low (numbered_place g.N.ShelfNumber.value p) in
    let now = put-counts low _ (c.args.number, c.args.id) c.self.inside.places.keys c.insert.new.self.keys c.in_ok-is_new.is_new
    c.in_ok-is_new.ensures.keys c.in_ok-is_new.ensures.len c.in_ok-is_new.ensures.unchanged in
    omega (arith, now, c.self.invariant, c.low_change.ensures)
