-- Numbers between which all slots with a value lie.
use Rattle.std.proofs.Common.{◌≡◌, ⊎_elim, inl, inr, ℕ, ◌+◌, ◌<◌, ◌≤◌, true, false, List, [], ◌∷◌, length, Option, Some, None, sym, ap, ◌∙◌, arith}
use Rattle.std.proofs.lemmas.Bool.{cases_lt, false≢true}
use Rattle.std.proofs.lemmas.Bool.Decides.{nat_tests}
use Rattle.std.specs.Map.{lookup}
use Rattle.std.specs.Option.{option_or, is_some}
use Rattle.std.specs.Ordering.{nat_cmp, is_gt, is_lt}
use Rattle.std.specs.BTreeMap.{is_at}
use Rattle.std.specs.FinMap.{get, entries, find, get-entries}
use Rattle.ballot.specs.Slots.{Slots}
use Rattle.ballot.specs.SlotRows.{in_row, with_row}
use Rattle.ballot.proofs.SlotMaps.{lookup-find}
use Rattle.ballot.proofs.SlotRows.{get_with_row, outside}

module _ {X : Type 0} (m : Slots X) (es : List (ℕ × X)) (own : es ≡ entries m) where
  -- a tree of the same entries answers alike
  same_answer : (q : ℕ) → lookup (is_at (nat_cmp q)) es ≡ get m q
  same_answer q = lookup-find q es ∙ ap (λ (es : List (ℕ × X)). find nat_cmp q es) own ∙ sym (get-entries m q)

  in_tree : (q : ℕ) → is_some (get m q) ≡ true → is_some (lookup (is_at (nat_cmp q)) es) ≡ true
  in_tree q there = ap is_some (same_answer q) ∙ there

  pub none_below : (k : ℕ) → ((q : ℕ) → is_some (lookup (is_at (nat_cmp q)) es) ≡ true → is_gt (nat_cmp k q) ≡ false)
      → (q : ℕ) → is_some (get m q) ≡ true → k ≤ q
  none_below k least q there = let low = least q (in_tree q there) in grind (arith, nat_tests, low)

  pub none_above : (k : ℕ) → ((q : ℕ) → is_some (lookup (is_at (nat_cmp q)) es) ≡ true → is_lt (nat_cmp k q) ≡ false)
      → (q : ℕ) → is_some (get m q) ≡ true → q < k + 1
  none_above k greatest q there = let high = greatest q (in_tree q there) in grind (arith, nat_tests, high)

  pub nothing_at : length es ≡ 0 → (q : ℕ) → is_some (get m q) ≡ true → ⊥
  nothing_at none q there = nowhere es none q (in_tree q there)
    where
      nowhere : (es : List (ℕ × X)) → length es ≡ 0 → (q : ℕ) → is_some (lookup (is_at (nat_cmp q)) es) ≡ true → ⊥
      nowhere [] none q there = false≢true there
      nowhere (e ∷ es) none q there = absurd (omega arith)

-- where nothing is found, nothing is there
pub none_then_empty : (n : ℕ) → (0 < n → false ≡ true) → n ≡ 0
none_then_empty n found = ⊎_elim (λ (l : 0 < n). absurd (false≢true (found l))) (λ (l : n ≤ 0). omega arith) (cases_lt 0 n)

module _ {X : Type 0} (first : ℕ) (row : List (Option X)) (m : Slots X) where
  -- what the row hasn't the map has
  beside : (s : ℕ) → in_row first row s ≡ None → is_some (get (with_row first row m) s) ≡ true → is_some (get m s) ≡ true
  beside s none there = ap is_some (sym (get_with_row first row m s ∙ ap (λ o. option_or o (get m s)) none)) ∙ there

  pub none_before_row : (b : ℕ) → b ≤ first → ((q : ℕ) → is_some (get m q) ≡ true → b ≤ q)
      → (s : ℕ) → is_some (get (with_row first row m) s) ≡ true → b ≤ s
  none_before_row b low within s there =
      ⊎_elim (λ (l : s < first). within s (beside s (outside first row s (inl l)) there)) (λ (l : first ≤ s). omega arith) (cases_lt s first)

  pub none_behind_row : (b : ℕ) → first + length row ≤ b → ((q : ℕ) → is_some (get m q) ≡ true → q < b)
      → (s : ℕ) → is_some (get (with_row first row m) s) ≡ true → s < b
  none_behind_row b high within s there =
      ⊎_elim (λ (l : s < first + length row). omega arith)
      (λ (l : first + length row ≤ s). within s (beside s (outside first row s (inr l)) there)) (cases_lt s (first + length row))
