-- What is gathered of slots from a base on, and the indices of what is left.
use Rattle.std.proofs.Common.{◌≡◌, ◌⊎◌, inl, inr, ⊎_elim, ℕ, zero, suc, ◌≤◌, ◌<◌, ◌+◌, Bool, true, false, cond, List, [], ◌∷◌}
use Rattle.std.proofs.Common.{filter, Option, None, Some, length, take, get_or, refl, sym, ap, subst, ◌∙◌, arith}
use Rattle.std.proofs.lemmas.Bool.Decides.{nat_tests}
use Rattle.std.specs.Prelude.{min, nat_le, is_some, ◌&&◌}
use Rattle.std.specs.Option.{unwrap_or}
use Rattle.std.specs.BTreeMap.{BTreeMap, get, is_at}
use Rattle.std.specs.List.{list_all}
use Rattle.std.proofs.lemmas.Bool.{and_parts}
use Rattle.std.proofs.lemmas.List.{take_all}
use Rattle.object.specs.Lists.{In}
use Rattle.ballot.specs.Rests.{pvalues_from}
use Rattle.ballot.proofs.Filters.{In_filter}
use Rattle.ballot.specs.Ballots.{Numbers}
use Rattle.ballot.specs.declared.pvalue.Pvalue.{Pvalue}
use Rattle.scout_commander.specs.Starts.{place_cmp, start, HasStarts, IsIndexOf}

-- the index of each pvalue's slot and ballot, of those from here on, isn't behind it
abbrev pub LeadFrom : {C : Type 0} → ℕ → BTreeMap (ℕ × Numbers) ℕ → List (Pvalue C) → Type 0
LeadFrom {C} i starts ps = (k : ℕ) (p : Pvalue C) → i ≤ k → k < length ps → p ≡ get_or ps k p → start starts (p.slot, p.ballot) (length ps) ≤ k

found_at : {X : Type 0} (n : ℕ) (x : X) (xs : List X) → In x (take n xs) → (k : ℕ) × (k < n) × (k < length xs) × (x ≡ get_or xs k x)
found_at zero x xs i = absurd i
found_at (suc n) x [] i = absurd i
found_at (suc n) x (y ∷ ys) (inl e) = (0, omega arith, omega arith, e)
found_at (suc n) x (y ∷ ys) (inr i) = let f = found_at n x ys i in (suc f.0, omega (arith, f.1), omega (arith, f.2), f.3)

-- where all lead to their pvalues, none stands before
pub all_lead : {C : Type 0} (starts : BTreeMap (ℕ × Numbers) ℕ) (ps : List (Pvalue C)) → LeadFrom 0 starts ps → IsIndexOf starts ps
all_lead starts ps led p i =
    let f = found_at (start starts (p.slot, p.ballot) (length ps)) p ps i in
    let behind = led f.0 p (omega arith) f.2 f.3 in
    absurd (omega (arith, behind, f.1))

at_in : {X : Type 0} (k : ℕ) (x : X) (xs : List X) → k < length xs → x ≡ get_or xs k x → In x xs
at_in k x [] h e = absurd (omega arith)
at_in zero x (y ∷ ys) h e = inl e
at_in (suc k) x (y ∷ ys) h e = inr (at_in k x ys (omega arith) e)

same_at : {X : Type 0} (k : ℕ) (x y : X) (xs : List X) → k < length xs → x ≡ get_or xs k x → y ≡ get_or xs k y → x ≡ y
same_at k x y [] h e f = absurd (omega arith)
same_at zero x y (z ∷ zs) h e f = e ∙ sym f
same_at (suc k) x y (z ∷ zs) h e f = same_at k x y zs (omega arith) e f

-- a place is at itself
at_itself : (q : ℕ × Numbers) → is_at (place_cmp q) q ≡ true
at_itself q = grind (arith, nat_tests)

here_or_later : (i k : ℕ) → i ≤ k → (k ≡ i) ⊎ (i + 1 ≤ k)
here_or_later i k h =
    elim (nat_le (i + 1) k) as (λ b. nat_le (i + 1) k ≡ b → (k ≡ i) ⊎ (i + 1 ≤ k)) [
      | true ↦ λ e. inr (grind (arith, nat_tests, e))
      | false ↦ λ e. inl (grind (arith, nat_tests, e, h))
    ] refl

some_kept : (b : Bool) (i : ℕ) (o : Option ℕ) → is_some o ≡ true → is_some (cond (b && is_some o) (Some i) o) ≡ true
some_kept b i None h = cc
some_kept true i (Some x) h = refl
some_kept false i (Some x) h = refl

put_ahead : (b : Bool) (i n k : ℕ) (o : Option ℕ) → i ≤ k → min (unwrap_or o n) n ≤ k → min (unwrap_or (cond (b && is_some o) (Some i) o) n) n ≤ k
put_ahead true i n k None h l = l
put_ahead false i n k None h l = l
put_ahead true i n k (Some x) h l = omega arith
put_ahead false i n k (Some x) h l = l

put_here : (b : Bool) (i n : ℕ) (o : Option ℕ) → b ≡ true → is_some o ≡ true → min (unwrap_or (cond (b && is_some o) (Some i) o) n) n ≤ i
put_here b i n None e h = absurd (cc)
put_here true i n (Some x) e h = omega arith
put_here false i n (Some x) e h = absurd (cc)

module _ {C : Type 0} (starts new : BTreeMap (ℕ × Numbers) ℕ) (ps : List (Pvalue C)) (i : ℕ) (p : Pvalue C) (here : p ≡ get_or ps i p) (within : i < length ps)
    (up : (q : ℕ × Numbers) → get place_cmp new q
    ≡ cond (is_at (place_cmp (p.slot, p.ballot)) q && is_some (get place_cmp starts q)) (Some i) (get place_cmp starts q)) where
  -- the index of one pvalue's slot and ballot is set to it
  pub still_kept : HasStarts starts ps → HasStarts new ps
  still_kept has q j =
      let place : ℕ × Numbers = (q.slot, q.ballot) in
      ap is_some (up place) ∙ some_kept (is_at (place_cmp (p.slot, p.ballot)) place) i (get place_cmp starts place) (has q j)

  pub leads_too : HasStarts starts ps → LeadFrom (i + 1) starts ps → LeadFrom i new ps
  leads_too has led k q h lt item =
      let place : ℕ × Numbers = (q.slot, q.ballot) in
      let n = length ps in
      subst (λ o. min (unwrap_or o n) n ≤ k) (sym (up place))
      (⊎_elim
      (λ (e : k ≡ i).
      let same : p ≡ q = same_at i p q ps within here (subst (λ m. q ≡ get_or ps m q) e item) in
      subst (λ m. min (unwrap_or (cond (is_at (place_cmp (p.slot, p.ballot)) place && is_some (get place_cmp starts place)) (Some i)
      (get place_cmp starts place)) n) n ≤ m)
      (sym e)
      (put_here (is_at (place_cmp (p.slot, p.ballot)) place) i n (get place_cmp starts place)
      (subst (λ (r : Pvalue C). is_at (place_cmp (p.slot, p.ballot)) (r.slot, r.ballot) ≡ true) same (at_itself (p.slot, p.ballot)))
      (has q (at_in k q ps lt item))))
      (λ (l : i + 1 ≤ k). put_ahead (is_at (place_cmp (p.slot, p.ballot)) place) i n k (get place_cmp starts place) h (led k q l lt item))
      (here_or_later i k h))

-- each of these has an index, since before the end that stands for none they all stand
pub each_has_start : {C : Type 0} (starts : BTreeMap (ℕ × Numbers) ℕ) (ps : List (Pvalue C)) → IsIndexOf starts ps → HasStarts starts ps
each_has_start {C} starts ps is p i = go (get place_cmp starts (p.slot, p.ballot)) (λ j. is p j)
  where
    whole : take (min (length ps) (length ps)) ps ≡ ps
    whole = take_all (min (length ps) (length ps)) ps (omega arith)

    go : (o : Option ℕ) → (In p (take (min (unwrap_or o (length ps)) (length ps)) ps) → ⊥) → is_some o ≡ true
    go None none = absurd (none (subst (λ (qs : List (Pvalue C)). In p qs) (sym whole) i))
    go (Some k) none = refl

-- and so has each of those that are left, where the indices of their slots stay
pub rest_has_starts : {C : Type 0} (starts new : BTreeMap (ℕ × Numbers) ℕ) (base : ℕ) (ps : List (Pvalue C))
    → ((place : ℕ × Numbers) → base ≤ place.0 → get place_cmp new place ≡ get place_cmp starts place)
    → HasStarts starts ps → HasStarts new (pvalues_from base ps)
rest_has_starts starts new base ps same has p i =
    let there = In_filter (λ p. nat_le base p.slot) p ps i in
    let high : base ≤ p.slot = grind (arith, nat_tests, there.1) in
    ap is_some (same (p.slot, p.ballot) high) ∙ has p there.0

-- where all pass, all are left
pub all_left : {X : Type 0} (test : X → Bool) (xs : List X) → list_all test xs ≡ true → filter test xs ≡ xs
all_left test [] h = refl
all_left test (x ∷ xs) h =
    let both = and_parts (test x) (list_all test xs) h in
    ap (λ b. cond b (x ∷ filter test xs) (filter test xs)) both.0 ∙ ap (λ ys. x ∷ ys) (all_left test xs both.1)
