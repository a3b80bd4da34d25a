-- The decisions of a window.
use Rattle.std.proofs.Common.{◌≡◌, ⊎_elim, ℕ, ◌+◌, ◌^◌, ◌<◌, ◌≤◌, min, Bool, true, false, ◌&&◌, cond, nat_le, nat_lt}
use Rattle.std.proofs.Common.{List, [], ◌∷◌, ◌++◌, None, Some, ap, ap₂, refl, sym, ◌∙◌, arith}
use Rattle.std.specs.Prelude.{T}
use Rattle.std.proofs.lemmas.Bool.{cases_lt}
use Rattle.slot_log.specs.Decisions.{entry_of}
use Rattle.std.specs.FinMap.Entries.{find, below_all, is_sorted}
use Rattle.std.proofs.lemmas.Bool.Decides.{nat_tests}
use Rattle.std.specs.List.{filter}
use Rattle.std.specs.Option.{is_some}
use Rattle.std.specs.Ordering.{nat_cmp, eq_by_cmp, is_lt}

-- from its first slot to before another
abbrev pub inside : {X : Type 0} → ℕ → ℕ → ℕ × X → Bool
inside s n e = nat_le s e.0 && nat_lt e.0 n

pub first : (a b : Bool) → T (a && b) → T a
first true b p = tt
first false b p = p

pub second : (a b : Bool) → T (a && b) → T b
second true b p = p
second false b p = absurd p

above : (k q : ℕ) → T (is_lt (nat_cmp k q)) → k < q
above k q h = grind (arith, nat_tests, h)

chosen : {X : Type 0} (b : Bool) (x : X) (xs ys : List X) → cond b (x ∷ xs ++ ys) (xs ++ ys) ≡ cond b (x ∷ xs) xs ++ ys
chosen true x xs ys = refl
chosen false x xs ys = refl

-- nothing of what is above a slot is before it
none_inside : {X : Type 0} (s n k : ℕ) (es : List (ℕ × X)) → T (below_all nat_cmp k es) → n ≤ k + 1 → filter (inside s n) es ≡ []
none_inside s n k [] h low = refl
none_inside s n k (e ∷ es) h low =
    let far = above k e.0 (first _ _ h) in
    let out : inside s n e ≡ false = grind (arith, nat_tests, far) in
    ap (λ b. cond b (e ∷ filter (inside s n) es) (filter (inside s n) es)) out ∙ none_inside s n k es (second _ _ h) low

pub none_found : {X : Type 0} (n k : ℕ) (es : List (ℕ × X)) → T (below_all nat_cmp k es) → n ≤ k → find nat_cmp n es ≡ None
none_found n k [] h low = refl
none_found n k (e ∷ es) h low =
    let far = above k e.0 (first _ _ h) in
    let other : eq_by_cmp nat_cmp n e.0 ≡ false = grind (arith, nat_tests, far) in
    ap (λ b. cond b (Some e.1) (find nat_cmp n es)) other ∙ none_found n k es (second _ _ h) low

-- an empty window
pub nothing_yet : {X : Type 0} (s n : ℕ) (es : List (ℕ × X)) → n ≤ s → filter (inside s n) es ≡ []
nothing_yet s n [] h = refl
nothing_yet s n (e ∷ es) h =
    let out : inside s n e ≡ false = grind (arith, nat_tests, h) in
    ap (λ b. cond b (e ∷ filter (inside s n) es) (filter (inside s n) es)) out ∙ nothing_yet s n es h

-- one slot more
pub next_inside : {X : Type 0} (s n : ℕ) (es : List (ℕ × X)) → T (is_sorted nat_cmp es) → s ≤ n
    → filter (inside s (n + 1)) es ≡ filter (inside s n) es ++ entry_of n (find nat_cmp n es)
next_inside s n [] h from = refl
next_inside {X} s n (e ∷ es) h from =
    let up = first (below_all nat_cmp e.0 es) (is_sorted nat_cmp es) h in
    let rest = second (below_all nat_cmp e.0 es) (is_sorted nat_cmp es) h in
    let put = λ (f : ℕ × X → Bool) (b : Bool). cond b (e ∷ filter f es) (filter f es) in
    let look = λ (b : Bool). cond b (Some e.1) (find nat_cmp n es) in
    ⊎_elim
    (λ (low : e.0 < n).
    let same : inside s (n + 1) e ≡ inside s n e = grind (arith, nat_tests, low) in
    let other : eq_by_cmp nat_cmp n e.0 ≡ false = grind (arith, nat_tests, low) in
    ap₂ (λ b (xs : List (ℕ × X)). cond b (e ∷ xs) xs) same (next_inside s n es rest from) ∙
    chosen (inside s n e) e (filter (inside s n) es) (entry_of n (find nat_cmp n es)) ∙
    ap (λ o. filter (inside s n) (e ∷ es) ++ entry_of n o) (sym (ap look other)))
    (λ (high : n ≤ e.0).
    let out : inside s n e ≡ false = grind (arith, nat_tests, high) in
    let nothing : filter (inside s n) (e ∷ es) ≡ [] = ap (put (inside s n)) out ∙ none_inside s n e.0 es up (omega (arith, high)) in
    ⊎_elim
    (λ (same : n < e.0).
    let beyond : inside s (n + 1) e ≡ false = grind (arith, nat_tests, same) in
    let other : eq_by_cmp nat_cmp n e.0 ≡ false = grind (arith, nat_tests, same) in
    ap (put (inside s (n + 1))) beyond ∙ none_inside s (n + 1) e.0 es up (omega (arith, same)) ∙
    sym (ap₂ (λ (xs : List (ℕ × X)) o. xs ++ entry_of n o) nothing (ap look other ∙ none_found n e.0 es up high)))
    (λ (low : e.0 ≤ n).
    let same : e.0 ≡ n = omega (arith, low, high) in
    let here : inside s (n + 1) e ≡ true = grind (arith, nat_tests, same) in
    let own : eq_by_cmp nat_cmp n e.0 ≡ true = grind (arith, nat_tests, same) in
    ap (put (inside s (n + 1))) here ∙ ap₂ (λ k (xs : List (ℕ × X)). (k, e.1) ∷ xs) same (none_inside s (n + 1) e.0 es up (omega (arith, same))) ∙
    sym (ap₂ (λ (xs : List (ℕ × X)) o. xs ++ entry_of n o) nothing (ap look own)))
    (cases_lt n e.0))
    (cases_lt e.0 n)

-- the whole window, where no slot is beyond the last
pub whole_window : {X : Type 0} (s n : ℕ) (es : List (ℕ × X))
    → ((q : ℕ) → is_some (find nat_cmp q es) ≡ true → q ≤ 2 ^ 62) → n ≡ min (s + 63) (2 ^ 62) + 1
    → filter (inside s n) es ≡ filter (λ e. nat_le s e.0 && nat_lt e.0 (s + 64)) es
whole_window s n [] within end = refl
whole_window {X} s n (e ∷ es) within end =
    let own : eq_by_cmp nat_cmp e.0 e.0 ≡ true = grind (arith, nat_tests) in
    let low : e.0 ≤ 2 ^ 62 = within e.0 (ap (λ b. is_some (cond b (Some e.1) (find nat_cmp e.0 es))) own) in
    let same : inside s n e ≡ (nat_le s e.0 && nat_lt e.0 (s + 64)) = grind (arith, nat_tests, low, end) in
    ap₂ (λ (b : Bool) (ys : List (ℕ × X)). cond b (e ∷ ys) ys) same (whole_window s n es (λ q there. within q (also q there)) end)
  where
    also : (q : ℕ) → is_some (find nat_cmp q es) ≡ true → is_some (cond (eq_by_cmp nat_cmp q e.0) (Some e.1) (find nat_cmp q es)) ≡ true
    also q there = elim (eq_by_cmp nat_cmp q e.0) as (λ b. is_some (cond b (Some e.1) (find nat_cmp q es)) ≡ true) [ true ↦ refl | false ↦ there ]
