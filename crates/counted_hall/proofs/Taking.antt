-- The first items of a list, with one more, and all of them.
use Rattle.std.proofs.Common.{◌≡◌, inl, inr, ⊎_elim, ℕ, ◌+◌, ◌<◌, Bool, true, false, List, [], ◌∷◌, ◌++◌, length, map}
use Rattle.std.proofs.Common.{take, drop, None, Some, refl, sym, ap, ◌∙◌, subst}
use Rattle.std.specs.Prelude.{slice_index_or, flat_map, if◌then◌else◌}
use Rattle.std.proofs.lemmas.List.{take_more, take-append-drop, map-append}
use Rattle.std.proofs.lemmas.Grind.{flat_map-append}
use Rattle.object.specs.Lists.{In}
use Rattle.object.specs.ListLaws.{In-left, In-right, In-cases}
use Rattle.counted_hall.specs.Marks.{is_free, with_mark, with_marks}
use Rattle.counted_hall.proofs.Marking.{marked_on, marked_off}

-- it holds of all that stand in the one list or in the other
pub all_more : {A : Type 0} (P : A → Type 0) (xs ys zs : List A) → zs ≡ xs ++ ys → ((a : A) → In a xs → P a)
    → ((a : A) → In a ys → P a) → (a : A) → In a zs → P a
all_more P xs ys zs is ofxs ofys a i = ⊎_elim (ofxs a) (ofys a) (In-cases a xs ys (subst (In a) is i))

pub of_one : {A : Type 0} (P : A → Type 0) (x : A) → P x → (a : A) → In a (x ∷ []) → P a
of_one P x p a (inl e) = subst P (sym e) p
of_one P x p a (inr none) = absurd none

module _ {X : Type 0} (xs : List X) (n : ℕ) (x : X) (within : n < length xs) (at : x ≡ slice_index_or xs n x) where
  pub one_taken : take (n + 1) xs ≡ take n xs ++ (x ∷ [])
  one_taken = take_more xs n x within ∙ ap (λ y. take n xs ++ (y ∷ [])) (sym at)

  pub In-at : In x xs
  In-at = subst (In x) (take-append-drop (n + 1) xs)
      (In-left x (take (n + 1) xs) (drop (n + 1) xs)
      (subst (In x) (sym one_taken) (In-right x (take n xs) (x ∷ []) (inl refl))))

  module _ {A : Type 0} (f : X → List A) where
    -- what is made of them, one after the other
    pub made_more : flat_map f (take (n + 1) xs) ≡ flat_map f (take n xs) ++ f x
    made_more = ap (flat_map f) one_taken ∙ flat_map-append f (take n xs) (x ∷ []) ∙ ap (λ l. flat_map f (take n xs) ++ l) (append_none (f x))
      where
        append_none : (l : List A) → l ++ [] ≡ l
        append_none [] = refl
        append_none (a ∷ l) = ap (λ m. a ∷ m) (append_none l)

    pub made_whole : flat_map f xs ≡ (flat_map f (take n xs) ++ f x) ++ flat_map f (drop (n + 1) xs)
    made_whole = ap (flat_map f) (sym (take-append-drop (n + 1) xs)) ∙ flat_map-append f (take (n + 1) xs)
        (drop (n + 1) xs) ∙ ap (λ l. l ++ flat_map f (drop (n + 1) xs)) made_more

    pub In-made : (a : A) → In a (f x) → In a (flat_map f xs)
    In-made a i = subst (In a) (sym made_whole)
        (In-left a (flat_map f (take n xs) ++ f x) (flat_map f (drop (n + 1) xs))
        (In-right a (flat_map f (take n xs)) (f x) i))

-- the marks of items, each of one session
module _ {X : Type 0} (key : X → ℕ) (m k : List Bool) (xs ys : List X) (sofar : with_marks m (map key xs) ≡ Some k) where
  pub marked_more : (j : List Bool) (zs : List X) → zs ≡ xs ++ ys → with_marks k (map key ys) ≡ Some j → with_marks m (map key zs) ≡ Some j
  marked_more j zs is next = ap (λ l. with_marks m (map key l)) is ∙ ap (with_marks m) (map-append key xs ys) ∙
      marked_on m k (map key xs) (map key ys) sofar ∙ next

  pub marked_none : (zs more : List X) → zs ≡ (xs ++ ys) ++ more → with_marks k (map key ys) ≡ None → with_marks m (map key zs) ≡ None
  marked_none zs more is stops =
      let first = marked_on m k (map key xs) (map key ys) sofar ∙ stops in
      ap (λ l. with_marks m (map key l)) is ∙ ap (with_marks m) (map-append key (xs ++ ys) more)
      ∙ marked_off m (map key (xs ++ ys)) (map key more) (ap (with_marks m) (map-append key xs ys) ∙ first)

-- and of one
pub one_marked : (k j : List Bool) (s : ℕ) → is_free k s ≡ true → j ≡ with_mark k s → with_marks k (s ∷ []) ≡ Some j
one_marked k j s free is = ap (λ b. if b then Some (with_mark k s) else None) free ∙ ap (λ l. Some l) (sym is)

pub one_stops : (k : List Bool) (s : ℕ) → is_free k s ≡ false → with_marks k (s ∷ []) ≡ None
one_stops k s free = ap (λ b. if b then Some (with_mark k s) else None) free
