-- Sessions can be marked one after the other exactly where all have a mark and no two are one.
use Rattle.std.proofs.Common.{◌≡◌, ℕ, zero, suc, ◌+◌, ◌<◌, ◌≤◌, Bool, true, false, not, eqb, List, [], ◌∷◌, ◌++◌}
use Rattle.std.proofs.Common.{length, Option, None, Some, refl, sym, ap, ◌∙◌, subst, arith}
use Rattle.std.specs.Prelude.{slice_index_or, slice_set, nat_le, nat_lt, ◌&&◌, ◌||◌, All, if◌then◌else◌}
use Rattle.std.specs.List.{IsDistinct, AllByRecursion, list_any}
use Rattle.std.proofs.lemmas.List.{get_or-set_other, get_or_past}
use Rattle.std.proofs.lemmas.Bool.Decides.{nat_tests}
use Rattle.std.proofs.lemmas.Map.Keys.{IsDistinct-cons}
use Rattle.std.proofs.lemmas.Map.Steps.{length-le_from_distinct_below}
use Rattle.counted_hall.specs.Marks.{is_free, with_mark, with_marks}

-- what was marked stays
set_same : (m : List Bool) (i : ℕ) → slice_index_or m i true ≡ false → slice_index_or (slice_set m i true) i true ≡ true
set_same [] i e = refl
set_same (b ∷ m) zero e = refl
set_same (b ∷ m) (suc i) e = set_same m i e

-- another session, where one was marked
other_free : (m : List Bool) (s t : ℕ) → eqb s t ≡ false → is_free (with_mark m s) t ≡ is_free m t
other_free m zero t e = refl
other_free m (suc i) zero e = refl
other_free m (suc i) (suc j) e = ap not (get_or-set_other m i j true true (λ same. absurd (grind (arith, nat_tests))))

-- and the same
same_taken : (m : List Bool) (s : ℕ) → is_free m s ≡ true → is_free (with_mark m s) s ≡ false
same_taken m zero e = absurd (cc)
same_taken m (suc i) e = ap not (set_same m i (unmarked (slice_index_or m i true) e))
  where
    unmarked : (b : Bool) → not b ≡ true → b ≡ false
    unmarked true e = sym e
    unmarked false e = refl

abbrev pub AllFree : List Bool → List ℕ → Type 0
AllFree m xs = AllByRecursion (λ s. is_free m s ≡ true) xs

abbrev pub IsApart : ℕ → List ℕ → Type 0
IsApart s xs = AllByRecursion (λ t. eqb s t ≡ false) xs

-- those that are free after one was marked were free, and are others
still_free : (m : List Bool) (s : ℕ) (xs : List ℕ) → is_free m s ≡ true → AllFree (with_mark m s) xs → IsApart s xs × AllFree m xs
still_free m s [] free all = (tt, tt)
still_free m s (t ∷ xs) free all =
    let more = still_free m s xs free all.1 in let one = other (eqb s t) refl in ((one.0, more.0), (one.1, more.1))
  where
    other : (b : Bool) → eqb s t ≡ b → (eqb s t ≡ false) × (is_free m t ≡ true)
    other true e = absurd (let same : s ≡ t = grind (arith, nat_tests) in let taken =
        same_taken m s free in let t_free = subst (λ x. is_free (with_mark m s) x ≡ true) (sym same) all.0 in cc)
    other false e = (e, sym (other_free m s t e) ∙ all.0)

free_still : (m : List Bool) (s : ℕ) (xs : List ℕ) → IsApart s xs → AllFree m xs → AllFree (with_mark m s) xs
free_still m s [] apart all = tt
free_still m s (t ∷ xs) apart all = (other_free m s t apart.0 ∙ all.0, free_still m s xs apart.1 all.1)

-- where all could be marked, they were free, and no two are one
pub sound : (m k : List Bool) (xs : List ℕ) → with_marks m xs ≡ Some k → IsDistinct eqb xs × AllFree m xs
unfolding IsDistinct
sound m k [] e = (tt, tt)
sound m k (s ∷ xs) e = at (sound (with_mark m s) k xs) (is_free m s) refl e
  where
    at : (with_marks (with_mark m s) xs ≡ Some k → IsDistinct eqb xs × AllFree (with_mark m s) xs) → (b : Bool)
        → is_free m s ≡ b → (if b then with_marks (with_mark m s) xs else None) ≡ Some k
        → (IsApart s xs × IsDistinct eqb xs) × AllFree m (s ∷ xs)
    at more true free e = let still = still_free m s xs free (more e).1 in ((still.0, (more e).0), (free, still.1))
    at more false free e = absurd (cc)

-- and where they are free, and no two are one, all can be marked
pub complete : (m : List Bool) (xs : List ℕ) → IsDistinct eqb xs → AllFree m xs → (k : List Bool) × (with_marks m xs ≡ Some k)
unfolding IsDistinct
complete m [] once free = (m, refl)
complete m (s ∷ xs) once free =
    let more = complete (with_mark m s) xs once.1 (free_still m s xs once.0 free.1) in
    (more.0, ap (λ b. if b then with_marks (with_mark m s) xs else None) free.0 ∙ more.1)

-- some, and then others
pub marked_on : (m k : List Bool) (xs ys : List ℕ) → with_marks m xs ≡ Some k → with_marks m (xs ++ ys) ≡ with_marks k ys
marked_on m k [] ys e = ap (λ o. with_marks (inside o) ys) e
  where
    inside : Option (List Bool) → List Bool
    inside None = []
    inside (Some l) = l
marked_on m k (s ∷ xs) ys e = at (marked_on (with_mark m s) k xs ys) (is_free m s) e
  where
    at : (with_marks (with_mark m s) xs ≡ Some k → with_marks (with_mark m s) (xs ++ ys) ≡ with_marks k ys) → (b : Bool)
        → (if b then with_marks (with_mark m s) xs else None) ≡ Some k
        → (if b then with_marks (with_mark m s) (xs ++ ys) else None) ≡ with_marks k ys
    at more true e = more e
    at more false e = absurd (cc)

pub marked_off : (m : List Bool) (xs ys : List ℕ) → with_marks m xs ≡ None → with_marks m (xs ++ ys) ≡ None
marked_off m [] ys e = absurd (cc)
marked_off m (s ∷ xs) ys e = at (marked_off (with_mark m s) xs ys) (is_free m s) e
  where
    at : (with_marks (with_mark m s) xs ≡ None → with_marks (with_mark m s) (xs ++ ys) ≡ None) → (b : Bool)
        → (if b then with_marks (with_mark m s) xs else None) ≡ None
        → (if b then with_marks (with_mark m s) (xs ++ ys) else None) ≡ None
    at more true e = more e
    at more false e = refl

-- a session of so many
abbrev pub is_one_of : ℕ → ℕ → Bool
is_one_of n s = nat_le 1 s && nat_le s n

-- before anything is marked, exactly these are free
pub fresh : (m : List Bool) (s : ℕ) → All (λ b. b ≡ false) m → is_free m s ≡ is_one_of (length m) s
fresh m zero none = refl
fresh m (suc i) none = at (nat_lt i (length m)) refl
  where
    at : (b : Bool) → nat_lt i (length m) ≡ b → not (slice_index_or m i true) ≡ is_one_of (length m) (suc i)
    at true e =
        let within : i < length m = grind (arith, nat_tests) in
        let one : is_one_of (length m) (suc i) ≡ true = grind (arith, nat_tests) in
        ap not (none i true within) ∙ sym one
    at false e =
        let past : length m ≤ i = grind (arith, nat_tests) in
        let stranger : is_one_of (length m) (suc i) ≡ false = grind (arith, nat_tests) in
        ap not (get_or_past m i true past) ∙ sym stranger

-- none of them is s
apart : (s : ℕ) (xs : List ℕ) → list_any (eqb s) xs ≡ false → IsApart s xs
apart s [] e = tt
apart s (t ∷ xs) e = at (apart s xs) (eqb s t) refl e
  where
    at : (list_any (eqb s) xs ≡ false → IsApart s xs) → (b : Bool) → eqb s t ≡ b → b || list_any (eqb s) xs ≡ false → IsApart s (t ∷ xs)
    at more true same e = absurd (cc)
    at more false other e = (other, more e)

-- each is less than that
within : (xs : List ℕ) (n q : ℕ) → AllByRecursion (λ t. is_one_of n t ≡ true) xs → list_any (eqb q) xs ≡ true → q < n + 1
within [] n q all e = absurd (cc)
within (t ∷ xs) n q all e = at (within xs n q all.1) (eqb q t) refl e
  where
    at : (list_any (eqb q) xs ≡ true → q < n + 1) → (b : Bool) → eqb q t ≡ b → b || list_any (eqb q) xs ≡ true → q < n + 1
    at more true same e = let one = all.0 in grind (arith, nat_tests)
    at more false other e = more e

-- none of them is 0
no_zero : (xs : List ℕ) (n : ℕ) → AllByRecursion (λ t. is_one_of n t ≡ true) xs → IsApart 0 xs
no_zero [] n all = tt
no_zero (zero ∷ xs) n all = absurd (let one = all.0 in cc)
no_zero (suc t ∷ xs) n all = (grind (arith, nat_tests), no_zero xs n all.1)

-- n sessions of n, no two of them one, are all
pub all_there : (xs : List ℕ) (n s : ℕ) → IsDistinct eqb xs → AllByRecursion (λ t. is_one_of n t ≡ true) xs
    → length xs ≡ n → is_one_of n s ≡ true → list_any (eqb s) xs ≡ true
all_there xs n s once all long one = at (list_any (eqb s) xs) refl
  where
    at : (b : Bool) → list_any (eqb s) xs ≡ b → list_any (eqb s) xs ≡ true
    at true there = there
    at false missing =
        let more = IsDistinct-cons eqb s xs (apart s xs missing) once in
        let most = IsDistinct-cons eqb 0 (s ∷ xs) (no_zero (s ∷ xs) n (one, all)) more in
        let few = length-le_from_distinct_below (0 ∷ s ∷ xs) (n + 1) most (λ q e. bound q (eqb q 0) refl e) in
        absurd (omega (arith, few, long))
      where
        bound : (q : ℕ) (b : Bool) → eqb q 0 ≡ b → b || list_any (eqb q) (s ∷ xs) ≡ true → q < n + 1
        bound q true none e = grind (arith, nat_tests)
        bound q false some e = within (s ∷ xs) n q (one, all) e
