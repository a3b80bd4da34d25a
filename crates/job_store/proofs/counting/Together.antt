-- The count of some shelves, one after the other.
use Rattle.std.proofs.Common.{◌≡◌, ℕ, ◌+◌, ◌-◌, ◌<◌, ◌^◌, min, ◌⊎◌, inl, inr, List, [], ◌∷◌, ◌++◌, length, arith, sym, ap, subst, ◌∙◌, Ordering}
use Rattle.std.proofs.lemmas.List.Elements.{filter-append}
use Rattle.std.proofs.lemmas.List.{length-append}
use Rattle.std.specs.BTreeMap.{BTreeMap, IsOrdered}
use Rattle.std.specs.List.{filter}
use Rattle.object.specs.Lists.{In}
use Rattle.job_store.specs.declared.count.Count.{Count}
use Rattle.job_store.specs.Counts.{is_low, count_of, AreApart, all_places, AreCounted}
use Rattle.job_store.specs.ShelfStates.{ShelfState}
use Rattle.job_store.proofs.counting.Counted.{same-count}
use Rattle.job_store.proofs.counting.Passing.{passes-le}

module _ {K : Type 0} (whole : List (K × ShelfState)) where
  -- some shelves were counted, and these are the rest
  pub record AreCountedSoFar (count : Count) (rest : List (K × ShelfState)) : Type 0 where
    pub apart : (e : K × ShelfState) → In e whole → In e rest ⊎ AreApart e.1.places
    pub all : length (all_places whole) < 2 ^ 64 → count.all + length (all_places rest) ≡ length (all_places whole)
    pub low : length (all_places whole) < 2 ^ 64
        → count.low + length (filter is_low (all_places rest)) ≡ length (filter is_low (all_places whole))

  low-append : (ps qs : List (ℕ × ℕ)) → length (filter is_low (ps ++ qs)) ≡ length (filter is_low ps) + length (filter is_low qs)
  low-append ps qs = ap length (filter-append is_low ps qs) ∙ length-append (filter is_low ps) (filter is_low qs)

  pub one-counted : (count more new : Count) (e : K × ShelfState) (old rest : List (K × ShelfState)) → old ≡ e ∷ rest
      → more ≡ count_of e.1.places → AreApart e.1.places → new.all ≡ min (count.all + more.all) (2 ^ 64 - 1)
      → new.low ≡ min (count.low + more.low) (2 ^ 64 - 1) → AreCountedSoFar count old → AreCountedSoFar new rest
  one-counted count more new e old rest is m apart a l so-far =
      let all-m = ap (λ (c : Count). c.all) m in
      let low-m = ap (λ (c : Count). c.low) m in
      let longer = ap (λ es. length (all_places es)) is in
      let lower = ap (λ es. length (filter is_low (all_places es))) is in
      record {
        apart = λ d i.
            elim (so-far.apart d i) as (λ v. In d rest ⊎ AreApart d.1.places) [
              | inl r ↦ elim (subst (In d) is r) as (λ v. In d rest ⊎ AreApart d.1.places) [
                | inl here ↦ inr (subst (λ (x : K × ShelfState). AreApart x.1.places) (sym here) apart)
                | inr later ↦ inl later
              ]
              | inr done ↦ inr done
            ];
        all = λ fits. omega (arith, a, all-m, longer, length-append e.1.places (all_places rest), so-far.all fits, fits);
        low = λ fits. omega (arith, l, low-m, lower, low-append e.1.places (all_places rest), so-far.low fits, fits, passes-le is_low (all_places whole));
      }

  pub all-counted : (cmp : K → K → Ordering) (count : Count) (rest : List (K × ShelfState)) → rest ≡ [] → AreCountedSoFar count rest
      → (m : BTreeMap K ShelfState) → m.entries ≡ whole → IsOrdered cmp m → AreCounted cmp m count
  all-counted cmp count rest none so-far m same ordered = record {
    ordered = ordered;
    apart = λ e i.
        elim (so-far.apart e (subst (In e) same i)) as (λ v. AreApart e.1.places) [ inl r ↦ absurd (subst (In e) none r) | inr done ↦ done ];
    count = λ fits.
        let few = subst (λ es. length (all_places es) < 2 ^ 64) same fits in
        same-count count (count_of (all_places whole))
        (omega (arith, so-far.all few, ap (λ es. length (all_places es)) none))
        (omega (arith, so-far.low few, ap (λ es. length (filter is_low (all_places es))) none)) ∙
        ap (λ es. count_of (all_places es)) (sym same);
  }
