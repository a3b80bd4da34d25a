-- Where pvalues of a slot and a ballot stand.
use Rattle.std.proofs.Common.{rules, ◌≡◌, ◌≢◌, ◌⊎◌, inl, inr, ⊎_elim, ℕ, zero, suc, ◌≤◌, ◌<◌, ◌+◌, Bool, true, false}
use Rattle.std.proofs.Common.{true≢false, cond, List, [], ◌∷◌, ◌++◌, Option, None, Some, length, take, drop, refl, sym}
use Rattle.std.proofs.Common.{ap, subst, ◌∙◌, arith, length-append}
use Rattle.std.proofs.lemmas.Grind.{common_steps}
use Rattle.std.proofs.lemmas.List.{take-append-drop, length-take}
use Rattle.std.proofs.lemmas.Map.Lookups.{CmpEqualImpliesEq, exact_unsigned, exact_pairs}
use Rattle.std.specs.Prelude.{min}
use Rattle.std.specs.Option.{unwrap_or}
use Rattle.std.specs.List.{list_any}
use Rattle.std.specs.Ordering.{nat_cmp}
use Rattle.std.specs.Cmp.{Equal-is}
use Rattle.std.specs.BTreeMap.{BTreeMap, get, is_at, Updates}
use Rattle.object.specs.Lists.{In}
use Rattle.ballot.specs.Ballots.{Numbers}
use Rattle.ballot.specs.BallotOrder.{ballot_cmp, exact_ballots}
use Rattle.ballot.specs.PvalueLaws.{same_pvalues}
use Rattle.ballot.specs.declared.pvalue.Pvalue.{Pvalue}
use Rattle.scout_commander.specs.Starts.{place_cmp, start, IsIndexOf}
use Rattle.scout_commander.proofs.Members.{in_cases, in_right, in_take, in_take_take, found}

exact_places : CmpEqualImpliesEq place_cmp
exact_places = exact_pairs nat_cmp ballot_cmp exact_unsigned exact_ballots

exact_pvalues : {C : Type 0} (E : C → C → Bool) → ((x y : C) → E x y ≡ true → x ≡ y) → (p q : Pvalue C) → same_pvalues E p q ≡ true → p ≡ q
exact_pvalues E exact p q h = grind (rules, common_steps, exact)

same_itself : {C : Type 0} (E : C → C → Bool) → ((x : C) → E x x ≡ true) → (p : Pvalue C) → same_pvalues E p p ≡ true
same_itself E itself p = grind (rules, common_steps, itself)

true_or_false : (b : Bool) → (b ≡ true) ⊎ (b ≡ false)
true_or_false true = inl refl
true_or_false false = inr refl

-- where values are compared exactly, a pvalue stands in a list or it doesn't
pub there_or_not : {C : Type 0} (E : C → C → Bool) → ((x y : C) → E x y ≡ true → x ≡ y) → ((x : C) → E x x ≡ true)
    → (p : Pvalue C) (ps : List (Pvalue C)) → In p ps ⊎ (In p ps → ⊥)
there_or_not E exact itself p ps =
    let f = found (same_pvalues E) (exact_pvalues E exact) (same_itself E itself) p ps in
    ⊎_elim (λ (h : list_any (λ q. same_pvalues E q p) ps ≡ true). inl (f.0 h))
    (λ (h : list_any (λ q. same_pvalues E q p) ps ≡ false). inr (λ i. true≢false (sym (f.1 i) ∙ h)))
    (true_or_false (list_any (λ q. same_pvalues E q p) ps))

-- what is looked for from its start on is found where it is there
pub found_from : {C : Type 0} (E : C → C → Bool) → ((x y : C) → E x y ≡ true → x ≡ y) → ((x : C) → E x x ≡ true)
    → (starts : BTreeMap (ℕ × Numbers) ℕ) (ps : List (Pvalue C)) (p : Pvalue C) (from : ℕ) → IsIndexOf starts ps
    → from ≡ start starts (p.slot, p.ballot) (length ps)
    → (list_any (λ q. same_pvalues E q p) (drop from ps) ≡ true → In p ps)
    × (In p ps → list_any (λ q. same_pvalues E q p) (drop from ps) ≡ true)
found_from {C} E exact itself starts ps p from is at =
    let f = found (same_pvalues E) (exact_pvalues E exact) (same_itself E itself) p (drop from ps) in
    let whole : take from ps ++ drop from ps ≡ ps = take-append-drop from ps in (
      λ h. subst (λ qs. In p qs) whole (in_right p (take from ps) (drop from ps) (f.0 h)),
      λ i.
          ⊎_elim (λ (j : In p (take from ps)). absurd (is p (subst (λ n. In p (take n ps)) at j)))
          (λ (j : In p (drop from ps)). f.1 j)
          (in_cases p (take from ps) (drop from ps) (subst (λ qs. In p qs) (sym whole) i)),
    )

in_more : {A : Type 0} (n k : ℕ) (x : A) (xs : List A) → n ≤ k → In x (take n xs) → In x (take k xs)
in_more zero k x xs h i = absurd i
in_more (suc n) zero x xs h i = absurd (omega arith)
in_more (suc n) (suc k) x [] h i = i
in_more (suc n) (suc k) x (y ∷ ys) h (inl e) = inl e
in_more (suc n) (suc k) x (y ∷ ys) h (inr i) = inr (in_more n k x ys (omega arith) i)

shorter : (n k : ℕ) → suc (min n k) ≡ min (suc n) (suc k)
shorter n k = omega arith

-- an index beyond the end stands for it
to_end : {A : Type 0} (n : ℕ) (x : A) (xs : List A) → In x (take n xs) → In x (take (min n (length xs)) xs)
to_end zero x xs i = absurd i
to_end (suc n) x [] i = absurd i
to_end (suc n) x (y ∷ ys) (inl e) = subst (λ k. In x (take k (y ∷ ys))) (shorter n (length ys)) (inl e)
to_end (suc n) x (y ∷ ys) (inr i) =
    subst (λ k. In x (take k (y ∷ ys))) (shorter n (length ys)) (inr (to_end n x ys i))

-- of the first n of one more, an element is old, or it is the last and n reaches it
reaches : {A : Type 0} (n : ℕ) (x y : A) (xs : List A) → In x (take n (xs ++ y ∷ [])) → In x (take n xs) ⊎ ((x ≡ y) × (length xs < n))
reaches zero x y xs i = absurd i
reaches (suc n) x y [] (inl e) = inr (e, omega arith)
reaches (suc n) x y [] (inr i) = absurd (in_take n x [] i)
reaches (suc n) x y (z ∷ zs) (inl e) = inl (inl e)
reaches (suc n) x y (z ∷ zs) (inr i) =
    ⊎_elim (λ (j : In x (take n zs)). inl (inr j)) (λ (h : (x ≡ y) × (length zs < n)). let below = h.1 in inr (h.0, omega arith)) (reaches n x y zs i)

-- among more pvalues a start is no earlier
later : (o : Option ℕ) (n k : ℕ) → n ≤ k → min (unwrap_or o n) n ≤ min (unwrap_or o k) k
later None n k h = omega arith
later (Some i) n k h = omega arith

-- and it is the same, up to the end
ended : (o : Option ℕ) (n : ℕ) → min (min (unwrap_or o (n + 1)) (n + 1)) n ≡ min (unwrap_or o n) n
ended None n = omega arith
ended (Some i) n = omega arith

-- taking back leaves each index where it is
pub fewer : {C : Type 0} (starts : BTreeMap (ℕ × Numbers) ℕ) (ps : List (Pvalue C)) (n : ℕ) → IsIndexOf starts ps → IsIndexOf starts (take n ps)
fewer starts ps n is p i =
    let at = start starts (p.slot, p.ballot) in
    let short : length (take n ps) ≤ length ps = omega (arith, length-take n ps) in
    is p
    (in_more (at (length (take n ps))) (at (length ps)) p ps
    (later (get place_cmp starts (p.slot, p.ballot)) (length (take n ps)) (length ps) short)
    (in_take_take (at (length (take n ps))) n p ps i))

module _ (starts new : BTreeMap (ℕ × Numbers) ℕ) (place : ℕ × Numbers) (n : ℕ) (up : Updates place_cmp starts new place (Some n)) where
  -- the end is kept as the index of a slot and ballot that begin there
  pub noted : start new place (n + 1) ≤ n
  noted = subst (λ o. min (unwrap_or o (n + 1)) (n + 1) ≤ n) (sym up.1) (omega arith)

  -- which changes no start
  pub same_starts : start starts place n ≡ n → (q : ℕ × Numbers) → start new q n ≡ start starts q n
  same_starts at q =
      ap (λ o. min (unwrap_or o n) n) (up.0 q) ∙
      ⊎_elim
      (λ (h : is_at (place_cmp place) q ≡ true).
      let here : place ≡ q = exact_places place q ((Equal-is (place_cmp place q)).0 h) in
      let whole : min n n ≡ n = omega arith in
      ap (λ b. min (unwrap_or (cond b (Some n) (get place_cmp starts q)) n) n) h ∙ whole ∙ sym at ∙ ap (λ k. start starts k n) here)
      (λ (h : is_at (place_cmp place) q ≡ false). ap (λ b. min (unwrap_or (cond b (Some n) (get place_cmp starts q)) n) n) h)
      (true_or_false (is_at (place_cmp place) q))

-- the same starts serve as well
pub as_well : {C : Type 0} (starts new : BTreeMap (ℕ × Numbers) ℕ) (ps : List (Pvalue C)) (n : ℕ) → n ≡ length ps
    → ((q : ℕ × Numbers) → start new q n ≡ start starts q n) → IsIndexOf starts ps → IsIndexOf new ps
as_well {C} starts new ps n all same is p i =
    is p (subst (λ k. In p (take k ps)) (subst (λ k. start new (p.slot, p.ballot) k ≡ start starts (p.slot, p.ballot) k) all (same (p.slot, p.ballot))) i)

-- where an index is kept that is before the end, it stays so
pub kept : (starts : BTreeMap (ℕ × Numbers) ℕ) (place : ℕ × Numbers) (n : ℕ) → start starts place n ≢ n → start starts place (n + 1) ≤ n
kept starts place n = go (get place_cmp starts place)
  where
    go : (o : Option ℕ) → min (unwrap_or o n) n ≢ n → min (unwrap_or o (n + 1)) (n + 1) ≤ n
    go None h = omega arith
    go (Some i) h = omega arith

-- one more pvalue, which stands where its index leads or behind
pub pushed : {C : Type 0} (starts : BTreeMap (ℕ × Numbers) ℕ) (ps : List (Pvalue C)) (p : Pvalue C)
    → start starts (p.slot, p.ballot) (length ps + 1) ≤ length ps → IsIndexOf starts ps
    → IsIndexOf starts (ps ++ p ∷ [])
pushed {C} starts ps p at is q i =
    let n = length ps in
    let from = start starts (q.slot, q.ballot) (n + 1) in
    let longer : length (ps ++ p ∷ []) ≡ n + 1 = simp length-append (omega arith) in
    let j : In q (take from (ps ++ p ∷ [])) = subst (λ k. In q (take (start starts (q.slot, q.ballot) k) (ps ++ p ∷ []))) longer i in
    ⊎_elim
    (λ (k : In q (take from ps)). is q (subst (λ m. In q (take m ps)) (ended (get place_cmp starts (q.slot, q.ballot)) n) (to_end from q ps k)))
    (λ (h : (q ≡ p) × (n < from)).
    let low : from ≤ n = subst (λ (r : Pvalue C). start starts (r.slot, r.ballot) (n + 1) ≤ n) (sym h.0) at in
    let high = h.1 in absurd (omega arith))
    (reaches from q p ps j)
