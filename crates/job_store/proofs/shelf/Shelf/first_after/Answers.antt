use Rattle.std.proofs.Common.{ℕ, map, subst, sym, rules, ◌≡◌, ◌∷◌, [], inr}
use Rattle.std.specs.List.Sorted.{IsStrictlySortedBy}
use Rattle.std.specs.BTreeSet.{keys_between}
use Rattle.std.specs.declared.ops.Bound.TheVariants.{Excluded, Unbounded}
use Rattle.object.specs.Lists.{In}
use Rattle.job_store.specs.declared.job.Job.{Job}
use Rattle.job_store.specs.ShelfStates.{ShelfState, numbered_place, IsFound}
use Rattle.job_store.specs.Shelves.{BelongsAt, belongs_after, number}
use Rattle.job_store.proofs.shelving.Places.{shelf_cmp, AreAllAfter, AreAfter, sorted-rest, none-here-after, none-after, first-after-is-least}
use Rattle.job_store.proofs.shelving.Places.{finds-some, finds-none}
use Rattle.job_store.proofs.shelving.Numbered.{pair_cmp, after-kept, after-only, after-sorted}
use Rattle.job_store.proofs.shelf.Shelf.first_after.Goals as goal

pub loop-place-init : goal.loop-place-init
loop-place-init g c =
    let value = g.N.ShelfNumber.value in
    let law = g.met.N.ShelfNumber.in_order in
    let keys = c.self.inside.places.keys in
    let ahead : c.into_iter-place-iterator.result
    ≡ keys_between (pair_cmp g.N.Ord.cmp value law) (Excluded c.args.after) Unbounded c.self.inside.places =
    search (rules, c.range-place-items.ensures.between tt) in (
      λ p e i b t.
          let found : IsFound (record {
            places = map (numbered_place value) keys;
            from =
                numbered_place value c.self.inside.from;
          }) p =
          subst (λ (s : ShelfState). IsFound s p) (sym c.self.view_is) (c.requires.all p e i b) in
          subst (λ ks. In p (map (numbered_place value) ks)) (sym ahead) (after-kept g.N.Ord.cmp value law c.args.after p keys found.0 t),
      subst (λ ks. IsStrictlySortedBy shelf_cmp (map (numbered_place value) ks)) (sym ahead)
          (after-sorted g.N.Ord.cmp value law c.args.after keys c.range-place-items.ensures.ordered),
      λ p i. after-only g.N.Ord.cmp value law c.args.after p keys (subst (λ ks. In p (map (numbered_place value) ks)) ahead i),
    )

pub loop-place-preserved : goal.loop-place-preserved
loop-place-preserved g c =
    let value = g.N.ShelfNumber.value in
    let rest : c.loop-place.place-iterator ≡ c.in-Some.place.now ∷ c.next.new.self = search rules in (
      none-here-after c.args.label (numbered_place value c.args.after) (numbered_place value c.in-Some.place.now)
          (map (numbered_place value) c.next.new.self) c.args.jobs.now.entries
          (subst (λ n. (e : ℕ × Job) → In e c.args.jobs.now.entries
          → BelongsAt c.args.label (n, c.in-Some.place.now.1) e → ⊥) c.wide.ensures c.in_default.ensures.none)
          (subst (λ ks. AreAllAfter c.args.label (numbered_place value c.args.after)
          (map (numbered_place value) ks) c.args.jobs.now.entries) rest c.loop-place.invariant.0),
      sorted-rest (numbered_place value c.in-Some.place.now) (map (numbered_place value) c.next.new.self)
          (subst (λ ks. IsStrictlySortedBy shelf_cmp (map (numbered_place value) ks)) rest c.loop-place.invariant.1),
      λ p i. (subst (λ ks. AreAfter (numbered_place value c.args.after) (map (numbered_place value) ks)) rest c.loop-place.invariant.2) p (inr i),
    )

pub returns-in-Some-job_at : goal.returns-in-Some-job_at
returns-in-Some-job_at g c =
    let value = g.N.ShelfNumber.value in
    let rest : c.loop-place.place-iterator ≡ c.in-Some.place.now ∷ c.next.new.self = search rules in
    finds-some (belongs_after c.args.label (numbered_place value c.args.after)) (number c.args.label)
    c.args.jobs.now.entries _ _ (c.in-Some.place.now.1, c.in-Some-job_at.job) c.requires.rising
    (first-after-is-least c.args.label (numbered_place value c.args.after) (numbered_place value c.in-Some.place.now)
    (map (numbered_place value) c.next.new.self) c.args.jobs.now.entries
    (c.in-Some.place.now.1, c.in-Some-job_at.job.now)
    (subst (λ ks. AreAllAfter c.args.label (numbered_place value c.args.after)
    (map (numbered_place value) ks) c.args.jobs.now.entries) rest c.loop-place.invariant.0)
    (subst (λ ks. IsStrictlySortedBy shelf_cmp (map (numbered_place value) ks)) rest c.loop-place.invariant.1)
    (subst (λ ks. AreAfter (numbered_place value c.args.after) (map (numbered_place value) ks)) rest c.loop-place.invariant.2)
    c.in-Some-job_at.ensures.found.0
    (subst (λ n. BelongsAt c.args.label (n, c.in-Some.place.now.1) (c.in-Some.place.now.1, c.in-Some-job_at.job.now))
    c.wide.ensures c.in-Some-job_at.ensures.found.1))

pub returns : goal.returns
returns g c =
    let value = g.N.ShelfNumber.value in
    let rest : c.loop-place.place-iterator ≡ [] = search rules in
    finds-none (belongs_after c.args.label (numbered_place value c.args.after)) (number c.args.label)
    c.args.jobs.now.entries
    (none-after c.args.label (numbered_place value c.args.after) c.args.jobs.now.entries
    (subst (λ ks. AreAllAfter c.args.label (numbered_place value c.args.after)
    (map (numbered_place value) ks) c.args.jobs.now.entries) rest c.loop-place.invariant.0))
