-- What is found in a map by number, and what an edit of its list does to it.
use Rattle.std.proofs.Common.{◌≡◌, ℕ, zero, suc, ◌+◌, ◌-◌, ◌<◌, ◌≤◌, ◌≢◌, List, [], ◌∷◌, length, get_or, set, Some}
use Rattle.std.proofs.Common.{None, Result, Ok, Err, IfOk, IfErr, sym, ap, subst, refl, arith}
use Rattle.std.specs.List.{insert, remove}
use Rattle.std.specs.List.Sorted.{IsSearchInRange, IsBinarySearchResult, IsNonDecreasingBy}
use Rattle.std.specs.Ordering.{nat_cmp, ordering_index}
use Rattle.std.proofs.lemmas.Cmp.{ranked}
use Rattle.std.proofs.lemmas.List.Edits.{length-insert, get_or-insert_below, get_or-insert_at, get_or-insert_above}
use Rattle.std.proofs.lemmas.List.Edits.{length-remove, get_or-remove_below, get_or-remove_above}
use Rattle.std.proofs.lemmas.Bool.Decides.{nat_tests}
use Rattle.std.proofs.lemmas.Grind.{common_steps}
use Rattle.object.specs.NumberMaps.{value_of, number_at, Rises, IsAt, IsGapFor, Sets, Lacks}

module _ {V : Type 0} where
  -- no pair before place i has the number
  abbrev NoneBefore : List (ℕ × V) → ℕ → ℕ → Type 0
  NoneBefore es k i = (j : ℕ) (d : ℕ × V) → j < i → number_at es j d ≢ k

  none_later : (e : ℕ × V) (es : List (ℕ × V)) (k i : ℕ) → NoneBefore (e ∷ es) k (suc i) → NoneBefore es k i
  none_later e es k i none j d lt = none (suc j) d (omega arith)

  at_later : (e : ℕ × V) (es : List (ℕ × V)) (k i : ℕ) → IsAt (e ∷ es) k (suc i) → IsAt es k i
  at_later e es k i at = record { in_range = omega (arith, at.in_range); has = at.has }

  -- a number that no pair has isn't found
  pub value_absent : (es : List (ℕ × V)) (k : ℕ) → NoneBefore es k (length es) → value_of es k ≡ None
  value_absent [] k none = refl
  value_absent (e ∷ es) k none = grind (arith, nat_tests, none 0 e (omega arith), value_absent es k (none_later e es k _ none))

  -- the first pair that has it gives the value
  pub value_present : (es : List (ℕ × V)) (k i : ℕ) (d : ℕ × V) → IsAt es k i → NoneBefore es k i → value_of es k ≡ Some (get_or es i d).1
  value_present [] k i d at none = absurd (omega (arith, at.in_range))
  value_present (e ∷ es) k zero d at none = grind (arith, nat_tests, at.has d)
  value_present (e ∷ es) k (suc i) d at none =
      grind (arith, nat_tests, none 0 e (omega arith), value_present es k i d (at_later e es k i at) (none_later e es k i none))

  -- writing over it sets the value
  pub value_set : (es : List (ℕ × V)) (k i : ℕ) (v : V) → IsAt es k i → NoneBefore es k i → Sets es (set es i (k, v)) k v
  value_set [] k i v at none q = absurd (omega (arith, at.in_range))
  value_set (e ∷ es) k zero v at none q = grind (arith, nat_tests, at.has e)
  value_set (e ∷ es) k (suc i) v at none q =
      grind (arith, nat_tests, none 0 e (omega arith), value_set es k i v (at_later e es k i at) (none_later e es k i none) q)

  -- so does a new pair before any that has the number
  pub value_put : (es : List (ℕ × V)) (k i : ℕ) (v : V) → NoneBefore es k i → Sets es (insert es i (k, v)) k v
  value_put es k zero v none q = refl
  value_put [] k (suc i) v none q = refl
  value_put (e ∷ es) k (suc i) v none q =
      grind (arith, nat_tests, none 0 e (omega arith), value_put es k i v (none_later e es k i none) q)

  rises_later : (e : ℕ × V) (es : List (ℕ × V)) → Rises (e ∷ es) → Rises es
  rises_later e es rises i j d lt in_range = rises (suc i) (suc j) d (omega arith) (omega (arith, in_range))

  -- without the pair that has the number, it has no value
  pub value_taken : (es : List (ℕ × V)) (k i : ℕ) → Rises es → IsAt es k i → NoneBefore es k i → Lacks es (remove es i) k
  value_taken [] k i rises at none q = absurd (omega (arith, at.in_range))
  value_taken (e ∷ es) k zero rises at none q =
      let gone : value_of es k ≡ None = value_absent es k (λ j d lt same. omega (arith, rises 0 (suc j) d (omega arith) (omega (arith, lt)), at.has d, same)) in
      grind (arith, nat_tests, at.has e, gone)
  value_taken (e ∷ es) k (suc i) rises at none q =
      grind (arith, nat_tests, none 0 e (omega arith), value_taken es k i (rises_later e es rises) (at_later e es k i at) (none_later e es k i none) q)

module _ {V : Type 0} (es : List (ℕ × V)) (rises : Rises es) (k : ℕ) where
  -- the comparisons with k rise along the list, as a binary search asks
  compared : IsNonDecreasingBy (λ e. ordering_index (nat_cmp e.0 k)) es
  compared i j d le in_range =
      let numbers : number_at es i d ≤ number_at es j d = grind (arith, rises i j d, λ (same : i ≡ j). ap (λ p. number_at es p d) same) in
      grind (arith, nat_tests)

  -- a binary search ends at the number, or at the gap for it
  pub searched : (r : Result ℕ ℕ) → IsSearchInRange r (length es) → IsBinarySearchResult (λ e. nat_cmp e.0 k) es r
      → record { found : IfOk r (IsAt es k); absent : IfErr r (IsGapFor es k) }
  searched (Ok i) in_range equal = record { found = record { in_range = in_range; has = λ d. ranked _ k _ (sym (equal d)) }; absent = tt }
  searched (Err i) in_range parted = record {
    found = tt;
    absent = record {
      in_range = in_range;
      smaller = λ j d lt. ranked _ k _ (sym ((parted compared).0 j d (omega arith) lt));
      greater = λ j d le lt. ranked _ k _ (sym ((parted compared).1 j d le lt));
    };
  }

module _ {V : Type 0} (es : List (ℕ × V)) (rises : Rises es) (k i : ℕ) (at : IsAt es k i) where
  -- the numbers before it are smaller, so none is k
  pub none_before : NoneBefore es k i
  none_before j d lt same = omega (arith, rises j i d lt at.in_range, at.has d)

  -- writing over it leaves the numbers as they are
  pub rises_set : (v : V) → Rises (set es i (k, v))
  rises_set v p q d lt in_range = grind (arith, common_steps, rises p q d, rises p i d, rises i q d, at.in_range, at.has d)

  -- the others stay in their order
  pub rises_taken : Rises (remove es i)
  rises_taken p q d lt in_range =
      let size = length-remove es i at.in_range in
      let below : (p : ℕ) → p < i → number_at (remove es i) p d ≡ number_at es p d =
      λ p less. ap (λ (e : ℕ × V). e.0) (get_or-remove_below es i d p less at.in_range) in
      let above : (p : ℕ) → i ≤ p → number_at (remove es i) p d ≡ number_at es (p + 1) d =
      λ p more. ap (λ (e : ℕ × V). e.0) (get_or-remove_above es i d p more at.in_range) in
      grind (arith, below p, below q, above p, above q, rises p q d, rises p (q + 1) d, rises (p + 1) (q + 1) d)

module _ {V : Type 0} (es : List (ℕ × V)) (k i : ℕ) (gap : IsGapFor es k i) where
  -- a number that has a gap isn't there
  pub none_in_gap : NoneBefore es k (length es)
  none_in_gap j d lt same = grind (arith, gap.smaller j d, gap.greater j d)

  -- a new pair in the gap keeps the order
  pub rises_put : (v : V) → Rises es → Rises (insert es i (k, v))
  rises_put v rises p q d lt in_range =
      let new = insert es i (k, v) in
      let size = length-insert es i (k, v) gap.in_range in
      let below : (p : ℕ) → p < i → number_at new p d ≡ number_at es p d =
      λ p less. ap (λ (e : ℕ × V). e.0) (get_or-insert_below es i (k, v) d p less gap.in_range) in
      let here : (p : ℕ) → p ≡ i → number_at new p d ≡ k = λ p same. rw same (ap (λ (e : ℕ × V). e.0) (get_or-insert_at es i (k, v) d gap.in_range)) in
      let above : (p : ℕ) → i < p → number_at new p d ≡ number_at es (p - 1) d =
      λ p more. subst (λ m. number_at new m d ≡ number_at es (p - 1) d) {x = p - 1 + 1} (omega arith)
      (ap (λ (e : ℕ × V). e.0) (get_or-insert_above es i (k, v) d (p - 1) (omega arith) gap.in_range)) in
      grind (
        arith,
        below p,
        here p,
        above p,
        below q,
        here q,
        above q,
        rises p q d,
        rises p (q - 1) d,
        rises (p - 1)
            (q - 1) d,
        gap.smaller p d,
        gap.greater (q - 1) d,
      )

  -- the place of the gap is no later than the end, so no pair before it has the number
  pub none_before_gap : NoneBefore es k i
  none_before_gap j d lt same = omega (arith, gap.smaller j d lt)

-- above the greatest number, the place is the end
pub gap_at_end : {V : Type 0} (es : List (ℕ × V)) (k : ℕ) → Rises es → ((d : ℕ × V) → number_at es (length es - 1) d < k) → IsGapFor es k (length es)
gap_at_end es k rises above = record {
  in_range = omega arith;
  smaller = λ j d lt. grind (arith, above d, rises j (length es - 1) d, λ (same : j ≡ length es - 1). ap (λ p. number_at es p d) same);
  greater = λ j d le lt. absurd (omega (arith, le, lt));
}
