-- A turn of a loop over a tree that puts what it makes of each entry into another map.
use Rattle.std.proofs.Common.{◌≡◌, ℕ, Bool, true, false, cond, List, [], ◌∷◌, ◌++◌, map, Option, None, Some, refl, sym, ap, subst, ◌∙◌}
use Rattle.std.specs.Prelude.{T, ◌&&◌}
use Rattle.std.specs.Ordering.{nat_cmp, eq_by_cmp, is_lt}
use Rattle.std.specs.Cmp.{nat_cmp_total}
use Rattle.std.specs.Iterator.{Yields}
use Rattle.std.specs.Map.Iter.{TakesFirst}
use Rattle.std.specs.FinMap.{insert, from_entries, find, is_sorted, from_entries_push, nat_cmp-IsAntisymmetric}
use Rattle.std.specs.FinMap.Entries.{below_all}
use Rattle.std.proofs.Common.{arith}
use Rattle.std.proofs.lemmas.Bool.Decides.{nat_tests}
use Rattle.ballot.proofs.SlotMaps.{same_key}
use Rattle.std.proofs.lemmas.Map.Iter.{rest_so_far, rest_more, iter_end}

both_parts : (a b : Bool) → T (a && b) → T a × T b
both_parts true b h = (tt, h)
both_parts false b h = absurd h

below_middle : {X : Type 0} (x : ℕ) (xs : List (ℕ × X)) (e : ℕ × X) (ys : List (ℕ × X)) → T (below_all nat_cmp x (xs ++ e ∷ ys)) → T (is_lt (nat_cmp x e.0))
below_middle x [] e ys h = (both_parts _ _ h).0
below_middle x (y ∷ xs) e ys h = below_middle x xs e ys (both_parts _ _ h).1

above : (x k : ℕ) → T (is_lt (nat_cmp x k)) → eq_by_cmp nat_cmp k x ≡ false
above x k h = grind (arith, nat_tests)

module _ {X Y : Type 0} (f : ℕ → X → Y) where
  -- what a key and its value become
  abbrev pub made : ℕ × X → ℕ × Y
  made e = (e.0, f e.0 e.1)

  fresh : (xs : List (ℕ × X)) (e : ℕ × X) (ys : List (ℕ × X)) → T (is_sorted nat_cmp (xs ++ e ∷ ys)) → find nat_cmp e.0 (map made xs) ≡ None
  fresh [] e ys h = refl
  fresh (x ∷ xs) e ys h =
      let parts = both_parts (below_all nat_cmp x.0 (xs ++ e ∷ ys)) (is_sorted nat_cmp (xs ++ e ∷ ys)) h in
      ap (λ b. cond b (Some (f x.0 x.1)) (find nat_cmp e.0 (map made xs))) (above x.0 e.0 (below_middle x.0 xs e ys parts.0)) ∙ fresh xs e ys parts.1

  map_more : (xs : List (ℕ × X)) (e : ℕ × X) → map made (xs ++ e ∷ []) ≡ map made xs ++ made e ∷ []
  map_more [] e = refl
  map_more (x ∷ xs) e = ap (λ es. made x ∷ es) (map_more xs e)

  -- the next entry is put to those before
  pub put_next : (all xs : List (ℕ × X)) (e : ℕ × X) (ys : List (ℕ × X)) → T (is_sorted nat_cmp all)
      → all ≡ xs ++ e ∷ ys → insert (from_entries {R = nat_cmp} (map made xs)) e.0 (f e.0 e.1)
      ≡ from_entries (map made (xs ++ e ∷ []))
  put_next all xs e ys sorted is =
      let middle : T (is_sorted nat_cmp (xs ++ e ∷ ys)) = subst (λ es. T (is_sorted nat_cmp es)) is sorted in
      sym (from_entries_push nat_cmp_total nat_cmp-IsAntisymmetric (map made xs) e.0 (f e.0 e.1) (fresh xs e ys middle)) ∙
      ap (λ es. from_entries es) (sym (map_more xs e))

-- what is found among those that were made
pub find_made : {X Y : Type 0} (f : ℕ → X → Y) (es : List (ℕ × X)) (s : ℕ) (w : Y) → find nat_cmp s (map (made f) es) ≡ Some w → (v : X) × (w ≡ f s v)
find_made f [] s w h = absurd (cc)
find_made {X} {Y} f (e ∷ es) s w h = go (eq_by_cmp nat_cmp s e.0) refl (λ k. find_made f es s w k)
  where
    go : (b : Bool) → eq_by_cmp nat_cmp s e.0 ≡ b → (find nat_cmp s (map (made f) es) ≡ Some w → (v : X) × (w ≡ f s v)) → (v : X) × (w ≡ f s v)
    go true t later =
        let some : Some (f e.0 e.1) ≡ Some w = sym (ap (λ b. cond b (Some (f e.0 e.1)) (find nat_cmp s (map (made f) es))) t) ∙ h in
        let is : f e.0 e.1 ≡ w = cc in
        (e.1, sym is ∙ ap (λ k. f k e.1) (sym (same_key e.0 s t)))
    go false t later = later (sym (ap (λ b. cond b (Some (f e.0 e.1)) (find nat_cmp s (map (made f) es))) t) ∙ h)

shown_more : {A X : Type 0} (shows : A → X) (xs : List A) (x : A) → map shows (xs ++ x ∷ []) ≡ map shows xs ++ shows x ∷ []
shown_more shows [] x = refl
shown_more shows (y ∷ xs) x = ap (λ es. shows y ∷ es) (shown_more shows xs x)

module _ {A X Y : Type 0} (shows : A → ℕ × X) (f : ℕ → X → Y) (all : List (ℕ × X)) (xs : List A) (s t u : List (ℕ × X))
    (r : Option A) (start : s ≡ all) (y : Yields (TakesFirst shows) s xs t) where
  pub split_at_turn : (x : A) → r ≡ Some x → TakesFirst shows t r u → all ≡ map shows xs ++ shows x ∷ u
  split_at_turn x is step = sym start ∙ rest_so_far shows xs s t y ∙ ap (λ es. map shows xs ++ es) (rest_more shows t u r x is step)

  -- a turn of the loop
  pub turn : T (is_sorted nat_cmp all) → (x : A) → r ≡ Some x → TakesFirst shows t r u
      → insert (from_entries {R = nat_cmp} (map (made f) (map shows xs))) (shows x).0 (f (shows x).0 (shows x).1)
      ≡ from_entries (map (made f) (map shows (xs ++ x ∷ [])))
  turn sorted x is step =
      put_next f all (map shows xs) (shows x) u sorted (split_at_turn x is step) ∙
      ap (λ es. from_entries (map (made f) es)) (sym (shown_more shows xs x))

  -- its end
  pub whole : r ≡ None → TakesFirst shows t r u → map shows xs ≡ all
  whole is step = (iter_end shows all xs s t u r start y is step).0
