use Rattle.std.proofs.Common.{ℕ, map, subst, sym, rules, ◌≡◌, ◌∷◌, []}
use Rattle.std.specs.List.Sorted.{IsStrictlySortedBy}
use Rattle.std.specs.BTreeSet.{keys_between}
use Rattle.std.specs.declared.ops.Bound.TheVariants.{Included, Unbounded}
use Rattle.object.specs.Lists.{In}
use Rattle.job_store.specs.declared.job.Job.{Job}
use Rattle.job_store.specs.ShelfStates.{ShelfState, numbered_place, IsFound}
use Rattle.job_store.specs.Shelves.{BelongsAt, belongs, number}
use Rattle.job_store.proofs.shelving.Places.{shelf_cmp, AreAllOn, sorted-rest, none-here, none-on, first-is-least, finds-some, finds-none}
use Rattle.job_store.proofs.shelving.Numbered.{pair_cmp, ranged-of, ranged-sorted}
use Rattle.job_store.proofs.shelf.Shelf.first.Goals as goal

pub loop-place-init : goal.loop-place-init
loop-place-init g c =
    let ahead : c.into_iter-place-iterator.result
    ≡ keys_between (pair_cmp g.N.Ord.cmp g.N.ShelfNumber.value g.met.N.ShelfNumber.in_order)
    (Included c.self.inside.from) Unbounded c.self.inside.places =
    search (rules, c.range-place-items.ensures.between tt) in (
      λ p e i b.
          let found : IsFound (record {
            places =
                map (numbered_place g.N.ShelfNumber.value) c.self.inside.places.keys;
            from =
                numbered_place g.N.ShelfNumber.value c.self.inside.from;
          }) p =
          subst (λ (s : ShelfState). IsFound s p) (sym c.self.view_is) (c.requires.all p e i b) in
          subst (λ ks. In p (map (numbered_place g.N.ShelfNumber.value) ks)) (sym ahead)
          (ranged-of g.N.Ord.cmp g.N.ShelfNumber.value g.met.N.ShelfNumber.in_order c.self.inside.from p
          c.self.inside.places.keys found.0 found.1),
      subst (λ ks. IsStrictlySortedBy shelf_cmp (map (numbered_place g.N.ShelfNumber.value) ks)) (sym ahead)
          (ranged-sorted g.N.Ord.cmp g.N.ShelfNumber.value g.met.N.ShelfNumber.in_order c.self.inside.from
          c.self.inside.places.keys c.range-place-items.ensures.ordered),
    )

pub loop-place-preserved : goal.loop-place-preserved
loop-place-preserved g c =
    let rest : c.loop-place.place-iterator ≡ c.in-Some-place.place.now ∷ c.next.new.self = search rules in (
      none-here c.args.label (numbered_place g.N.ShelfNumber.value c.in-Some-place.place.now)
          (map (numbered_place g.N.ShelfNumber.value) c.next.new.self) c.args.jobs.now.entries
          (subst (λ n. (e : ℕ × Job) → In e c.args.jobs.now.entries
          → BelongsAt c.args.label (n, c.in-Some-place.place.now.1) e → ⊥) c.wide.ensures c.in_default-job_at.ensures.none)
          (subst (λ ks. AreAllOn c.args.label (map (numbered_place g.N.ShelfNumber.value) ks) c.args.jobs.now.entries) rest c.loop-place.invariant.0),
      sorted-rest (numbered_place g.N.ShelfNumber.value c.in-Some-place.place.now)
          (map (numbered_place g.N.ShelfNumber.value) c.next.new.self)
          (subst (λ ks. IsStrictlySortedBy shelf_cmp (map (numbered_place g.N.ShelfNumber.value) ks)) rest
          c.loop-place.invariant.1),
    )

pub returns-in-Some-job_at : goal.returns-in-Some-job_at
returns-in-Some-job_at g c =
    let rest : c.loop-place.place-iterator ≡ c.in-Some-place.place.now ∷ c.next.new.self = search rules in
    finds-some (belongs c.args.label) (number c.args.label) c.args.jobs.now.entries _ _ (c.in-Some-place.place.now.1, c.in-Some-job_at.job) c.requires.rising
    (first-is-least c.args.label (numbered_place g.N.ShelfNumber.value c.in-Some-place.place.now)
    (map (numbered_place g.N.ShelfNumber.value) c.next.new.self) c.args.jobs.now.entries
    (c.in-Some-place.place.now.1, c.in-Some-job_at.job.now)
    (subst (λ ks. AreAllOn c.args.label (map (numbered_place g.N.ShelfNumber.value) ks) c.args.jobs.now.entries) rest c.loop-place.invariant.0)
    (subst (λ ks. IsStrictlySortedBy shelf_cmp (map (numbered_place g.N.ShelfNumber.value) ks)) rest c.loop-place.invariant.1)
    c.in-Some-job_at.ensures.found.0
    (subst (λ n. BelongsAt c.args.label (n, c.in-Some-place.place.now.1) (c.in-Some-place.place.now.1, c.in-Some-job_at.job.now))
    c.wide.ensures c.in-Some-job_at.ensures.found.1))

pub returns : goal.returns
returns g c =
    let rest : c.loop-place.place-iterator ≡ [] = search rules in
    finds-none (belongs c.args.label) (number c.args.label) c.args.jobs.now.entries
    (none-on c.args.label c.args.jobs.now.entries
    (subst (λ ks. AreAllOn c.args.label (map (numbered_place g.N.ShelfNumber.value) ks) c.args.jobs.now.entries)
    rest c.loop-place.invariant.0))

pub returns-in-Some : goal.returns-in-Some
returns-in-Some g c =
    finds-some (belongs c.args.label) (number c.args.label) c.args.jobs.now.entries _ _ c.in-Some.found c.requires.rising c.in-Some.ensures
