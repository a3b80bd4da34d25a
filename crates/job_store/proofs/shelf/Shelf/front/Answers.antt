use Rattle.std.proofs.Common.{ℕ, map, subst, sym, rules, ◌≡◌, ◌∷◌, ◌∙◌}
use Rattle.std.specs.List.Sorted.{IsStrictlySortedBy}
use Rattle.std.specs.BTreeSet.{keys_between}
use Rattle.std.specs.declared.ops.Bound.TheVariants.{Included, Unbounded}
use Rattle.object.specs.Lists.{In}
use Rattle.job_store.specs.declared.job.Job.{Job}
use Rattle.job_store.specs.ShelfStates.{ShelfState, numbered_place, IsFound}
use Rattle.job_store.specs.Shelves.{BelongsAt}
use Rattle.job_store.proofs.shelving.Places.{shelf_cmp, AreAllFrom, passed-here, passed-to, sorted-rest}
use Rattle.job_store.proofs.shelving.Numbered.{pair_cmp, ranged-of, ranged-sorted}
use Rattle.job_store.proofs.shelving.Shelving.{nothing}
use Rattle.job_store.proofs.shelf.Shelf.front.Goals as goal

pub loop-place-init : goal.loop-place-init
loop-place-init g c =
    let ahead : c.into_iter-place-iterator.result
    ≡ keys_between (pair_cmp g.N.Ord.cmp g.N.ShelfNumber.value g.met.N.ShelfNumber.in_order)
    (Included c.self.inside.from) Unbounded c.self.inside.places =
    search (rules, c.range-place-items.ensures.between tt) in (
      λ p e i b f.
          let found : IsFound (record {
            places =
                map (numbered_place g.N.ShelfNumber.value) c.self.inside.places.keys;
            from =
                numbered_place g.N.ShelfNumber.value c.self.inside.from;
          }) p =
          subst (λ (s : ShelfState). IsFound s p) (sym c.self.view_is) f in
          subst (λ ks. In p (map (numbered_place g.N.ShelfNumber.value) ks)) (sym ahead)
          (ranged-of g.N.Ord.cmp g.N.ShelfNumber.value g.met.N.ShelfNumber.in_order c.self.inside.from p
          c.self.inside.places.keys found.0 found.1),
      subst (λ ks. IsStrictlySortedBy shelf_cmp (map (numbered_place g.N.ShelfNumber.value) ks)) (sym ahead)
          (ranged-sorted g.N.Ord.cmp g.N.ShelfNumber.value g.met.N.ShelfNumber.in_order c.self.inside.from
          c.self.inside.places.keys c.range-place-items.ensures.ordered),
    )

pub loop-place-preserved : goal.loop-place-preserved
loop-place-preserved g c =
    let rest : c.loop-place.place-iterator ≡ c.in-Some.place.now ∷ c.next.new.self = search rules in (
      passed-here c.args.label c.args.self.now c.args.jobs.now.entries
          (numbered_place g.N.ShelfNumber.value c.in-Some.place.now)
          (map (numbered_place g.N.ShelfNumber.value) c.next.new.self)
          (subst (λ n. (e : ℕ × Job) → In e c.args.jobs.now.entries
          → BelongsAt c.args.label (n, c.in-Some.place.now.1) e → ⊥) c.wide.ensures
          (nothing c.job_at.result (sym c.is_some.ensures ∙ c.if-is_some.false) c.job_at.ensures.none))
          (subst (λ ks. AreAllFrom c.args.label c.args.self.now c.args.jobs.now.entries
          (map (numbered_place g.N.ShelfNumber.value) ks)) rest c.loop-place.invariant.0),
      sorted-rest (numbered_place g.N.ShelfNumber.value c.in-Some.place.now)
          (map (numbered_place g.N.ShelfNumber.value) c.next.new.self)
          (subst (λ ks. IsStrictlySortedBy shelf_cmp (map (numbered_place g.N.ShelfNumber.value) ks)) rest
          c.loop-place.invariant.1),
    )

pub returns-then-is_some : goal.returns-then-is_some
returns-then-is_some g c =
    let rest : c.loop-place.place-iterator ≡ c.in-Some.place.now ∷ c.next.new.self = search rules in
    passed-to c.args.label c.args.self.now c.args.jobs.now.entries
    (numbered_place g.N.ShelfNumber.value c.in-Some.place.now)
    (map (numbered_place g.N.ShelfNumber.value) c.next.new.self)
    (subst (λ ks. AreAllFrom c.args.label c.args.self.now c.args.jobs.now.entries
    (map (numbered_place g.N.ShelfNumber.value) ks)) rest c.loop-place.invariant.0)
    (subst (λ ks. IsStrictlySortedBy shelf_cmp (map (numbered_place g.N.ShelfNumber.value) ks)) rest c.loop-place.invariant.1)
