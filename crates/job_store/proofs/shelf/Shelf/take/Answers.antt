use Rattle.std.proofs.Common.{ℕ, map, ap, subst, sym, ◌∙◌, arith}
use Rattle.object.specs.Lists.{In}
use Rattle.std.specs.BTreeMap.{is_at}
use Rattle.std.specs.Set.{remove_key}
use Rattle.job_store.specs.Counts.{is_low}
use Rattle.job_store.specs.ShelfStates.{ShelfState, numbered_place, IsFrom}
use Rattle.job_store.proofs.counting.Passing.{take-counts}
use Rattle.job_store.proofs.shelving.Numbered.{taken-of, gone-of, at-same}
use Rattle.job_store.proofs.shelving.Places.{shelf_cmp, lost-by}
use Rattle.job_store.proofs.shelf.Shelf.take.Goals as goal

pub returns-then-is_left : goal.returns-then-is_left
returns-then-is_left g c = record {
  keeps = λ p f apart. absurd (c.is_left.ensures c.if-is_left.true p f);
  only = λ p i. absurd (subst (λ ks. In p (map (numbered_place g.N.ShelfNumber.value) ks)) c.clear.ensures.empty i);
  ahead = λ p h. subst (λ (s : ShelfState). IsFrom s.from p) (sym c.self.view_is) h;
}

pub returns : goal.returns
returns g c =
    lost-by c.args.self.now (record {
      places = map (numbered_place g.N.ShelfNumber.value) c.remove-was_there.new.self.keys;
      from =
          numbered_place g.N.ShelfNumber.value c.self.inside.from;
    }) (g.N.ShelfNumber.value c.args.number, c.args.id)
    (ap (map (numbered_place g.N.ShelfNumber.value)) c.remove-was_there.ensures.keys ∙ taken-of g.N.Ord.cmp g.N.ShelfNumber.value
    g.met.N.ShelfNumber.in_order (c.args.number, c.args.id) c.self.inside.places.keys ∙ ap
    (λ (s : ShelfState). remove_key (is_at (shelf_cmp (g.N.ShelfNumber.value c.args.number, c.args.id))) s.places)
    c.self.view_is)
    (gone-of g.N.Ord.cmp g.N.ShelfNumber.value g.met.N.ShelfNumber.in_order (c.args.number, c.args.id)
    c.remove-was_there.new.self.keys ∙ c.remove-was_there.ensures.updates.1)
    (ap (λ (s : ShelfState). s.from) c.self.view_is)

pub overflow_sub-self : goal.overflow_sub-self
overflow_sub-self g c =
    let value = g.N.ShelfNumber.value in
    let low = λ (p : g.row.N.Denot × ℕ). is_low (numbered_place value p) in
    let now = take-counts low _ (c.args.number, c.args.id) c.self.inside.places.keys c.remove-was_there.new.self.keys
    c.remove-was_there.result (λ x t. ap is_low (at-same g.N.Ord.cmp value g.met.N.ShelfNumber.in_order (c.args.number, c.args.id) x t))
    c.remove-was_there.ensures.keys c.remove-was_there.ensures.test c.remove-was_there.ensures.unchanged in
    omega (arith, now, c.self.invariant, c.low_change.ensures)

pub invariant_of-self-2 : goal.invariant_of-self-2
invariant_of-self-2 g c =
    let value = g.N.ShelfNumber.value in
    let low = λ (p : g.row.N.Denot × ℕ). is_low (numbered_place value p) in
    let now = take-counts low _ (c.args.number, c.args.id) c.self.inside.places.keys c.remove-was_there.new.self.keys
    c.remove-was_there.result (λ x t. ap is_low (at-same g.N.Ord.cmp value g.met.N.ShelfNumber.in_order (c.args.number, c.args.id) x t))
    c.remove-was_there.ensures.keys c.remove-was_there.ensures.test c.remove-was_there.ensures.unchanged in
    omega (arith, now, c.self.invariant, c.low_change.ensures)
