-- The shelves of all tubes: just the jobs in a state stand there.
use Rattle.std.proofs.Common.{◌≡◌, ℕ, Bool, true, false, ◌&&◌, cond, inl, inr, List, [], ◌∷◌, bytes_eq, Some, refl, sym, ap, subst, ◌∙◌, Less}
use Rattle.std.proofs.Common.{unwrap_or, true≢false, ◌^◌, ◌<◌, length, arith}
use Rattle.std.proofs.lemmas.Bool.{and_parts, and_from, cond-true}
use Rattle.std.proofs.lemmas.Map.Text.{is_eq-slice_cmp}
use Rattle.std.proofs.lemmas.Slice.Eq.{bytes_eq-Decides}
use Rattle.std.specs.BTreeMap.{BTreeMap, is_at, IsOrdered}
use Rattle.std.specs.List.Sorted.{IsStrictlySortedBy}
use Rattle.std.specs.List.{AllByRecursion}
use Rattle.std.specs.Map.{keys_of, lookup}
use Rattle.std.specs.Ordering.{is_eq}
use Rattle.object.specs.ListLaws.{In-left, In-right, In-cases}
use Rattle.object.specs.Lists.{In}
use Rattle.job_store.specs.declared.count.Count.{Count}
use Rattle.job_store.specs.declared.job.Job.{Job}
use Rattle.job_store.specs.Counts.{AreApart, AreCounted, all_places}
use Rattle.job_store.specs.Entries.{Rising}
use Rattle.job_store.specs.Racks.{shelf_at}
use Rattle.bean_words.specs.Names.{name_cmp}
use Rattle.job_store.specs.ShelfStates.{ShelfState, bare}
use Rattle.job_store.proofs.counting.Apart.{apart-append}
use Rattle.job_store.proofs.counting.Counted.{AreOn, IsCountOf, how-many, counted}
use Rattle.job_store.proofs.counting.Passing.{passes-le}
use Rattle.job_store.proofs.least.Least.{same_entry}
use Rattle.bean_words.proofs.naming.NameSets.{at-name}

-- The shelf of a name, among shelves whose names rise

not-less : (k : List ℕ) → name_cmp k k ≡ Less → ⊥
not-less k less =
    let same : is_eq (name_cmp k k) ≡ true = is_eq-slice_cmp k k ∙ (bytes_eq-Decides k k).1 refl in
    true≢false (sym same ∙ ap is_eq less)

rises : (k : List ℕ) (es : List (List ℕ × ShelfState)) (e : List ℕ × ShelfState)
    → AllByRecursion (λ y. name_cmp k y ≡ Less) (keys_of es) → In e es → name_cmp k e.0 ≡ Less
rises k [] e a i = absurd i
rises k (d ∷ ds) e a (inl here) = ap (λ (x : List ℕ × ShelfState). name_cmp k x.0) here ∙ a.0
rises k (d ∷ ds) e a (inr later) = rises k ds e a.1 later

other : (k : List ℕ) (es : List (List ℕ × ShelfState)) (e : List ℕ × ShelfState)
    → AllByRecursion (λ y. name_cmp k y ≡ Less) (keys_of es) → In e es → k ≡ e.0 → ⊥
other k es e a i same = not-less k (subst (λ n. name_cmp k n ≡ Less) (sym same) (rises k es e a i))

its-shelf : (es : List (List ℕ × ShelfState)) (e : List ℕ × ShelfState) → IsStrictlySortedBy name_cmp (keys_of es) → In e es
    → lookup (is_at (name_cmp e.0)) es ≡ Some e.1
unfolding IsStrictlySortedBy
its-shelf [] e s i = absurd i
its-shelf (d ∷ ds) e s (inl here) =
    cond-true (is_at (name_cmp e.0) d.0) (Some d.1) (lookup (is_at (name_cmp e.0)) ds)
    (is_eq-slice_cmp e.0 d.0 ∙ (bytes_eq-Decides e.0 d.0).1 (ap (λ (x : List ℕ × ShelfState). x.0) here)) ∙
    ap (λ (x : List ℕ × ShelfState). Some x.1) (sym here)
its-shelf (d ∷ ds) e s (inr later) =
    elim (is_at (name_cmp e.0) d.0) as (λ b. is_at (name_cmp e.0) d.0 ≡ b → cond b (Some d.1) (lookup (is_at (name_cmp e.0)) ds) ≡ Some e.1) [
      | true ↦ λ t. absurd (other d.0 ds e s.0 later (sym (at-name e.0 d.0 t)))
      | false ↦ λ t. its-shelf ds e s.1 later
    ] refl

-- All places

of-shelf : (p : ℕ × ℕ) (k : List ℕ) (es : List (List ℕ × ShelfState))
    → In p (unwrap_or (lookup (is_at (name_cmp k)) es) bare).places → In p (all_places es)
of-shelf p k [] i = i
of-shelf p k (e ∷ es) i =
    elim (is_at (name_cmp k) e.0) as (λ b. In p (unwrap_or (cond b (Some e.1) (lookup (is_at (name_cmp k)) es)) bare).places → In p (all_places (e ∷ es))) [
      | true ↦ λ i. In-left p e.1.places (all_places es) i
      | false ↦ λ i. In-right p e.1.places (all_places es) (of-shelf p k es i)
    ] i

on-some : (p : ℕ × ℕ) (es : List (List ℕ × ShelfState)) → In p (all_places es) → (e : List ℕ × ShelfState) × In e es × In p e.1.places
on-some p [] i = absurd i
on-some p (e ∷ es) i =
    elim (In-cases p e.1.places (all_places es) i) as (λ v. (d : List ℕ × ShelfState) × In d (e ∷ es) × In p d.1.places) [
      | inl here ↦ (e, inl refl, here)
      | inr later ↦ let w = on-some p es later in (w.0, inr w.1, w.2)
    ]

module _ (by : Job → ℕ) (state : ℕ × Job → Bool) (jobs : List (ℕ × Job)) (rising : Rising 0 (2 ^ 64) jobs) where
  abbrev in_tube : List ℕ → ℕ × Job → Bool
  in_tube tube e = state e && bytes_eq tube e.1.tube

  -- a place that two shelves have is of one job
  one-name : (p : ℕ × ℕ) (k q : List ℕ) (ps qs : List (ℕ × ℕ)) → AreOn by (in_tube k) jobs ps → AreOn by (in_tube q) jobs qs
      → In p ps → In p qs → k ≡ q
  one-name p k q ps qs one two i j =
      let a = one.known p i in
      let b = two.known p j in
      let same : a.0 ≡ b.0 = same_entry 0 (2 ^ 64) jobs a.0 b.0 rising a.1 b.1 (ap (λ (x : ℕ × ℕ). x.1) (sym a.3 ∙ b.3)) in
      (bytes_eq-Decides k a.0.1.tube).0 (and_parts (state a.0) (bytes_eq k a.0.1.tube) a.2).1 ∙
      ap (λ (e : ℕ × Job). e.1.tube) same ∙
      sym ((bytes_eq-Decides q b.0.1.tube).0 (and_parts (state b.0) (bytes_eq q b.0.1.tube) b.2).1)

  all-apart : (es : List (List ℕ × ShelfState)) → IsStrictlySortedBy name_cmp (keys_of es)
      → ((e : List ℕ × ShelfState) → In e es → AreOn by (in_tube e.0) jobs e.1.places)
      → ((e : List ℕ × ShelfState) → In e es → AreApart e.1.places) → AreApart (all_places es)
  unfolding IsStrictlySortedBy
  all-apart [] s on apart = tt
  all-apart (e ∷ es) s on apart =
      apart-append e.1.places (all_places es) (apart e (inl refl)) (all-apart es s.1 (λ d i. on d (inr i)) (λ d i. apart d (inr i)))
      (λ p i j.
      let w = on-some p es j in
      other e.0 es w.0 s.0 w.1 (one-name p e.0 w.0.0 e.1.places w.0.1.places (on e (inl refl)) (on w.0 (inr w.1)) i w.2))

  module _ (shelves : BTreeMap (List ℕ) ShelfState) (ordered : IsOrdered name_cmp shelves)
      (on : (tube : List ℕ) → AreOn by (in_tube tube) jobs (shelf_at name_cmp shelves tube).places) where
    on-each : (e : List ℕ × ShelfState) → In e shelves.entries → AreOn by (in_tube e.0) jobs e.1.places
    on-each e i =
        subst (λ o. AreOn by (in_tube e.0) jobs (unwrap_or o bare).places) (its-shelf shelves.entries e ordered i) (on e.0)

    on-all-apart : ((e : List ℕ × ShelfState) → In e shelves.entries → AreApart e.1.places) → AreApart (all_places shelves.entries)
    on-all-apart apart = all-apart shelves.entries ordered on-each apart

    on-all : AreOn by state jobs (all_places shelves.entries)
    on-all = record {
      known = λ p i.
          let w = on-some p shelves.entries i in
          let k = (on-each w.0 w.1).known p w.2 in
          (k.0, k.1, (and_parts (state k.0) (bytes_eq w.0.0 k.0.1.tube) k.2).0, k.3);
      placed = λ e i t.
          of-shelf (by e.1, e.0) e.1.tube shelves.entries
          ((on e.1.tube).placed e i (and_from (state e) (bytes_eq e.1.tube e.1.tube) t ((bytes_eq-Decides e.1.tube e.1.tube).1 refl)));
    }

    -- a count of all shelves tells how many jobs are in the state, and how many of them at a low number
    pub all-of : (count : Count) → length jobs < 2 ^ 63 → AreCounted name_cmp shelves count → IsCountOf by state jobs count
    all-of count few is =
        let apart = on-all-apart is.apart in
        let many = how-many by state 0 (2 ^ 64) jobs (all_places shelves.entries) rising apart on-all in
        counted by state 0 (2 ^ 64) jobs (all_places shelves.entries) count rising apart on-all
        (is.count (omega (arith, many, passes-le state jobs, few)))
