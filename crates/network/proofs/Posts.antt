-- Mails with letters at their back.
use Rattle.std.proofs.Common.{◌≡◌, ◌≢◌, ◌⊎◌, inl, inr, ⊎_elim, ℕ, zero, suc, ◌+◌, ◌-◌, ◌<◌, ◌==◌, true, false, cond}
use Rattle.std.proofs.Common.{List, [], ◌∷◌, ◌++◌, drop, length, refl, sym, ap, ap₂, ◌∙◌, subst, arith, length-set}
use Rattle.std.specs.Prelude.{slice_index_or, slice_set, is_some}
use Rattle.std.specs.List.{remove}
use Rattle.std.proofs.lemmas.Bool.{cases_eq, cond-true, cond-false}
use Rattle.std.proofs.lemmas.Bool.Decides.{nat_tests}
use Rattle.std.proofs.lemmas.List.{append-nil, append_assoc, get_or_default}
use Rattle.std.proofs.lemmas.List.Elements.{filter-append}
use Rattle.ballot.specs.declared.letter.Letter.{Letter}
use Rattle.network.specs.Networks.{posted_from, letters_to, front}
use Rattle.network.specs.Posting.{IsBetween, AreBetween, IsPost, but_first}
use Rattle.object.specs.Lists.{In}
use Rattle.object.specs.ListLaws.{In-cases}

pub test_yes : (a b : ℕ) → a ≡ b → (a == b) ≡ true
test_yes a b e = grind (arith, nat_tests)

pub test_no : (a b : ℕ) → a ≢ b → (a == b) ≡ false
test_no a b e = grind (arith, nat_tests)

-- what is in a list with another element
in_set : {A : Type 0} (xs : List A) (i : ℕ) (x y : A) → In y (slice_set xs i x) → In y xs ⊎ (y ≡ x)
in_set [] i x y h = absurd h
in_set (z ∷ zs) zero x y (inl e) = inr e
in_set (z ∷ zs) zero x y (inr h) = inl (inr h)
in_set (z ∷ zs) (suc i) x y (inl e) = inl (inl e)
in_set (z ∷ zs) (suc i) x y (inr h) = ⊎_elim (λ (a : In y zs). inl (inr a)) (λ (e : y ≡ x). inr e) (in_set zs i x y h)

pub set_again : {A : Type 0} (xs : List A) (i : ℕ) (y : A) → y ≡ slice_index_or xs i y → slice_set xs i y ≡ xs
set_again [] i y e = refl
set_again (x ∷ xs) zero y e = ap (λ z. z ∷ xs) e
set_again (x ∷ xs) (suc i) y e = ap (λ zs. x ∷ zs) (set_again xs i y e)

pub in_at : {A : Type 0} (xs : List A) (i : ℕ) (d : A) → i < length xs → In (slice_index_or xs i d) xs
in_at [] i d h = absurd (omega (arith, h))
in_at (x ∷ xs) zero d h = inl refl
in_at (x ∷ xs) (suc i) d h = inr (in_at xs i d (omega (arith, h)))

pub head_is : {A : Type 0} (xs : List A) (x : A) → 0 < length xs → x ≡ slice_index_or xs 0 x → xs ≡ x ∷ drop 1 xs
head_is [] x h e = absurd (omega (arith, h))
head_is (y ∷ ys) x h e = ap (λ z. z ∷ ys) (sym e)

pub drop_one_more : {A : Type 0} (n : ℕ) (xs : List A) → drop 1 (drop n xs) ≡ drop (suc n) xs
drop_one_more zero [] = refl
drop_one_more zero (x ∷ xs) = refl
drop_one_more (suc n) [] = refl
drop_one_more (suc n) (x ∷ xs) = drop_one_more n xs

module _ {C : Type 0} where
  -- the first letter is to n, or not
  pub to_it : (n : ℕ) (l : Letter C) (ls : List (Letter C)) → l.to ≡ n → letters_to n (l ∷ ls) ≡ l ∷ letters_to n ls
  to_it n l ls e = cond-true (l.to == n) (l ∷ letters_to n ls) (letters_to n ls) (test_yes l.to n e)

  pub to_another : (n : ℕ) (l : Letter C) (ls : List (Letter C)) → l.to ≢ n → letters_to n (l ∷ ls) ≡ letters_to n ls
  to_another n l ls e = cond-false (l.to == n) (l ∷ letters_to n ls) (letters_to n ls) (test_no l.to n e)

  pub none_posted : (n : ℕ) (mails : List (List (Letter C))) → posted_from n [] mails ≡ mails
  none_posted n [] = refl
  none_posted n (m ∷ ms) = ap₂ (λ a b. a ∷ b) (append-nil m) (none_posted (suc n) ms)

  pub both_posted : (n : ℕ) (xs ys : List (Letter C)) (mails : List (List (Letter C)))
      → posted_from n (xs ++ ys) mails ≡ posted_from n ys (posted_from n xs mails)
  both_posted n xs ys [] = refl
  both_posted n xs ys (m ∷ ms) =
      ap₂ (λ a b. a ∷ b)
      (ap (λ z. m ++ z) (filter-append (λ (l : Letter C). l.to == n) xs ys) ∙ sym (append_assoc m (letters_to n xs) (letters_to n ys)))
      (both_posted (suc n) xs ys ms)

  -- a letter to a node before n
  passed : (n : ℕ) (l : Letter C) (ls : List (Letter C)) (mails : List (List (Letter C))) → l.to < n → posted_from n (l ∷ ls) mails ≡ posted_from n ls mails
  passed n l ls [] h = refl
  passed n l ls (m ∷ ms) h = ap₂ (λ a b. (m ++ a) ∷ b) (to_another n l ls (λ e. omega (arith, e, h))) (passed (suc n) l ls ms (omega (arith, h)))

  -- a letter that is sorted into its receiver's mail
  pub first_sorted : (n : ℕ) (l : Letter C) (ls : List (Letter C)) (mails : List (List (Letter C))) (i : ℕ)
      → l.to ≡ n + i → i < length mails
      → posted_from n ls (slice_set mails i (slice_index_or mails i [] ++ (l ∷ []))) ≡ posted_from n (l ∷ ls) mails
  first_sorted n l ls [] i e h = absurd (omega (arith, h))
  first_sorted n l ls (m ∷ ms) zero e h =
      ap₂ (λ a b. a ∷ b)
      (append_assoc m (l ∷ []) (letters_to n ls) ∙ ap (λ z. m ++ z) (sym (to_it n l ls (omega (arith, e)))))
      (sym (passed (suc n) l ls ms (omega (arith, e))))
  first_sorted n l ls (m ∷ ms) (suc i) e h =
      ap₂ (λ a b. (m ++ a) ∷ b)
      (sym (to_another n l ls (λ f. omega (arith, e, f))))
      (first_sorted (suc n) l ls ms i (omega (arith, e)) (omega (arith, h)))

  -- mail i with letters at its back
  pub posted_at : (n : ℕ) (ls : List (Letter C)) (mails : List (List (Letter C))) (i : ℕ) → i < length mails
      → slice_index_or (posted_from n ls mails) i [] ≡ slice_index_or mails i [] ++ letters_to (n + i) ls
  posted_at n ls [] i h = absurd (omega (arith, h))
  posted_at n ls (m ∷ ms) zero h = ap (λ k. m ++ letters_to k ls) (omega arith)
  posted_at n ls (m ∷ ms) (suc i) h = posted_at (suc n) ls ms i (omega (arith, h)) ∙ ap (λ k. slice_index_or ms i [] ++ letters_to k ls) (omega arith)

  -- another mail in the place of mail i
  pub posted_put : (n : ℕ) (ls : List (Letter C)) (mails : List (List (Letter C))) (i : ℕ) (x : List (Letter C))
      → posted_from n ls (slice_set mails i x) ≡ slice_set (posted_from n ls mails) i (x ++ letters_to (n + i) ls)
  posted_put n ls [] i x = refl
  posted_put n ls (m ∷ ms) zero x = ap (λ k. (x ++ letters_to k ls) ∷ posted_from (suc n) ls ms) (omega arith)
  posted_put n ls (m ∷ ms) (suc i) x =
      ap (λ b. (m ++ letters_to n ls) ∷ b)
      (posted_put (suc n) ls ms i x ∙ ap (λ k. slice_set (posted_from (suc n) ls ms) i (x ++ letters_to k ls)) (omega arith))

  but_first_if : (n t : ℕ) (l : Letter C) (ls : List (Letter C)) → (l.to ≡ t) ⊎ (l.to ≢ t) → n ≢ t
      → letters_to n (but_first t ls) ≡ letters_to n ls → letters_to n (but_first t (l ∷ ls)) ≡ letters_to n (l ∷ ls)
  but_first_if n t l ls (inl e) apart rest =
      ap (letters_to n) (cond-true (l.to == t) ls (l ∷ but_first t ls) (test_yes l.to t e))
      ∙ sym (to_another n l ls (λ f. apart (sym f ∙ e)))
  but_first_if n t l ls (inr e) apart rest =
      ap (letters_to n) (cond-false (l.to == t) ls (l ∷ but_first t ls) (test_no l.to t e))
      ∙ ap (λ z. cond (l.to == n) (l ∷ z) z) rest

  -- what is to another node stays
  but_first_other : (n t : ℕ) (ls : List (Letter C)) → n ≢ t → letters_to n (but_first t ls) ≡ letters_to n ls
  but_first_other n t [] apart = refl
  but_first_other n t (l ∷ ls) apart = but_first_if n t l ls (cases_eq l.to t) apart (but_first_other n t ls apart)

  but_first_own : (t : ℕ) (l : Letter C) (ls : List (Letter C)) → (l.to ≡ t) ⊎ (l.to ≢ t)
      → letters_to t (but_first t ls) ≡ drop 1 (letters_to t ls)
      → letters_to t (but_first t (l ∷ ls)) ≡ drop 1 (letters_to t (l ∷ ls))
  but_first_own t l ls (inl e) rest =
      ap (letters_to t) (cond-true (l.to == t) ls (l ∷ but_first t ls) (test_yes l.to t e))
      ∙ sym (ap (drop 1) (to_it t l ls e))
  but_first_own t l ls (inr e) rest =
      ap (letters_to t) (cond-false (l.to == t) ls (l ∷ but_first t ls) (test_no l.to t e))
      ∙ to_another t l (but_first t ls) e
      ∙ rest
      ∙ sym (ap (drop 1) (to_another t l ls e))

  -- what is to the node loses its first
  pub but_first_same : (t : ℕ) (ls : List (Letter C)) → letters_to t (but_first t ls) ≡ drop 1 (letters_to t ls)
  but_first_same t [] = refl
  but_first_same t (l ∷ ls) = but_first_own t l ls (cases_eq l.to t) (but_first_same t ls)

  late : (n t : ℕ) (ls : List (Letter C)) (mails : List (List (Letter C))) → t < n → posted_from n (but_first t ls) mails ≡ posted_from n ls mails
  late n t ls [] h = refl
  late n t ls (m ∷ ms) h = ap₂ (λ a b. (m ++ a) ∷ b) (but_first_other n t ls (λ e. omega (arith, e, h))) (late (suc n) t ls ms (omega (arith, h)))

  -- the first letter to a node is dropped
  pub first_dropped : (n : ℕ) (ls : List (Letter C)) (mails : List (List (Letter C))) (i t : ℕ) → t ≡ n + i
      → posted_from n (but_first t ls) mails
      ≡ slice_set (posted_from n ls mails) i (slice_index_or mails i [] ++ drop 1 (letters_to t ls))
  first_dropped n ls [] i t e = refl
  first_dropped n ls (m ∷ ms) zero t e =
      ap₂ (λ a b. (m ++ a) ∷ b)
      (ap (λ k. letters_to k (but_first t ls)) (omega (arith, e)) ∙ but_first_same t ls)
      (late (suc n) t ls ms (omega (arith, e)))
  first_dropped n ls (m ∷ ms) (suc i) t e =
      ap₂ (λ a b. (m ++ a) ∷ b)
      (but_first_other n t ls (λ f. omega (arith, e, f)))
      (first_dropped (suc n) ls ms i t (omega (arith, e)))

  -- mails with another in the place of mail i
  pub post_put : (mails : List (List (Letter C))) (fresh : List (Letter C)) (i : ℕ) (x : List (Letter C))
      → IsPost mails fresh → AreBetween (length mails) x → IsPost (slice_set mails i x) fresh
  post_put mails fresh i x post h =
      let size : length mails ≡ length (slice_set mails i x) = sym (length-set mails i x) in
      record {
        mailed = λ mail at l in_mail. subst (λ n. IsBetween n l) size
            (⊎_elim (λ (a : In mail mails). post.mailed mail a l in_mail)
            (λ (e : mail ≡ x). h l (subst (λ m. In l m) e in_mail)) (in_set mails i x mail at));
        unsorted = λ l at. subst (λ n. IsBetween n l) size (post.unsorted l at);
      }

  pub post_fresh : (mails : List (List (Letter C))) (fresh now : List (Letter C)) → IsPost mails fresh → AreBetween (length mails) now → IsPost mails now
  post_fresh mails fresh now post h = record { mailed = post.mailed; unsorted = h }

  pub between_append : (count : ℕ) (xs ys : List (Letter C)) → AreBetween count xs → AreBetween count ys → AreBetween count (xs ++ ys)
  between_append count xs ys a b = λ l at. ⊎_elim (λ (h : In l xs). a l h) (λ (h : In l ys). b l h) (In-cases l xs ys at)

  pub between_first : (count : ℕ) (l : Letter C) (ls : List (Letter C)) → AreBetween count (l ∷ ls) → IsBetween count l
  between_first count l ls h = h l (inl refl)

  pub between_rest : (count : ℕ) (l : Letter C) (ls : List (Letter C)) → AreBetween count (l ∷ ls) → AreBetween count ls
  between_rest count l ls h = λ m at. h m (inr at)

  -- the first letter is sorted
  pub post_sorted : (mails : List (List (Letter C))) (l : Letter C) (ls : List (Letter C)) (i : ℕ) → i < length mails
      → IsPost mails (l ∷ ls) → IsPost (slice_set mails i (slice_index_or mails i [] ++ (l ∷ []))) ls
  post_sorted mails l ls i h post =
      post_put mails ls i _
      (post_fresh mails (l ∷ ls) ls post (between_rest _ l ls post.unsorted))
      (between_append _ (slice_index_or mails i []) (l ∷ [])
      (post.mailed (slice_index_or mails i []) (in_at mails i [] h))
      (λ m at. ⊎_elim (λ (e : m ≡ l). subst (λ k. IsBetween (length mails) k) (sym e)
      (between_first _ l ls post.unsorted)) (λ (none : ⊥). absurd none) at))

  -- the first of these letters is sorted into its receiver's mail
  module _ (mails : List (List (Letter C))) (letters : List (Letter C)) (l : Letter C) (p : ℕ)
      (there : 0 < length letters) (first : l ≡ slice_index_or letters 0 l) (post : IsPost mails letters) where
    is_first : letters ≡ l ∷ drop 1 letters
    is_first = head_is letters l there first

    pub first_between : IsBetween (length mails) l
    first_between = between_first (length mails) l (drop 1 letters) (subst (AreBetween (length mails)) is_first post.unsorted)

    module _ (place : p ≡ l.to - 1) where
      pub place_within : p < length mails
      place_within = let a = first_between.receiver.0 in let b = first_between.receiver.1 in omega (arith, place, a, b)

      -- what stands in front and behind, whatever is taken
      pub taken_rest : (mail old : List (Letter C)) (now : List (Letter C))
          → ((k : Letter C) (ks : List (Letter C)) → letters ≡ k ∷ ks → (mail ≡ old ++ (k ∷ [])) × (now ≡ ks))
          → now ≡ drop 1 letters
      taken_rest mail old now took = (took l (drop 1 letters) is_first).1

      taken_mail : (mail old : List (Letter C)) (now : List (Letter C)) → old ≡ slice_index_or mails p old
          → ((k : Letter C) (ks : List (Letter C)) → letters ≡ k ∷ ks → (mail ≡ old ++ (k ∷ [])) × (now ≡ ks))
          → mail ≡ slice_index_or mails p [] ++ (l ∷ [])
      taken_mail mail old now at took = (took l (drop 1 letters) is_first).0 ∙ ap (λ z. z ++ (l ∷ [])) (at ∙ get_or_default mails p old [] place_within)

      pub sorted_same : (mail old : List (Letter C)) (now : List (Letter C)) → old ≡ slice_index_or mails p old
          → ((k : Letter C) (ks : List (Letter C)) → letters ≡ k ∷ ks → (mail ≡ old ++ (k ∷ [])) × (now ≡ ks))
          → posted_from 1 now (slice_set mails p mail) ≡ posted_from 1 letters mails
      sorted_same mail old now at took =
          ap₂ (λ a b. posted_from 1 a (slice_set mails p b)) (taken_rest mail old now took) (taken_mail mail old now at took)
          ∙ first_sorted 1 l (drop 1 letters) mails p (omega (arith, place, first_between.receiver.0)) place_within
          ∙ ap (λ z. posted_from 1 z mails) (sym is_first)

      pub sorted_post : (mail old : List (Letter C)) (now : List (Letter C)) → old ≡ slice_index_or mails p old
          → ((k : Letter C) (ks : List (Letter C)) → letters ≡ k ∷ ks → (mail ≡ old ++ (k ∷ [])) × (now ≡ ks))
          → IsPost (slice_set mails p mail) now
      sorted_post mail old now at took =
          let h : IsPost (slice_set mails p (slice_index_or mails p [] ++ (l ∷ []))) (drop 1 letters) =
          post_sorted mails l (drop 1 letters) p place_within (subst (IsPost mails) is_first post) in
          subst (λ z. IsPost (slice_set mails p z) now) (sym (taken_mail mail old now at took))
          (subst (λ z. IsPost (slice_set mails p (slice_index_or mails p [] ++ (l ∷ []))) z)
          (sym (taken_rest mail old now took)) h)

  -- the first of these that is to node t stands at i
  found_if : (t : ℕ) (x : Letter C) (xs : List (Letter C)) (i : ℕ) → x.to ≢ t
      → (is_some (front (letters_to t xs)) ≡ true) × (but_first t xs ≡ remove xs i)
      → (is_some (front (letters_to t (x ∷ xs))) ≡ true) × (but_first t (x ∷ xs) ≡ remove (x ∷ xs) (suc i))
  found_if t x xs i apart h = (
    ap (λ z. is_some (front z)) (to_another t x xs apart) ∙ h.0,
    cond-false (x.to == t) xs (x ∷ but_first t xs) (test_no x.to t apart) ∙ ap (λ z. x ∷ z) h.1,
  )

  pub found : (t : ℕ) (xs : List (Letter C)) (i : ℕ) (y : Letter C) → y ≡ slice_index_or xs i y → i < length xs
      → y.to ≡ t → ((k : ℕ) (d : Letter C) → k < i → (slice_index_or xs k d).to ≢ t)
      → (is_some (front (letters_to t xs)) ≡ true) × (but_first t xs ≡ remove xs i)
  found t [] i y at h e before = absurd (omega (arith, h))
  found t (x ∷ xs) zero y at h e before =
      let same : x.to ≡ t = ap (λ (z : Letter C). z.to) (sym at) ∙ e in (
        ap (λ z. is_some (front z)) (to_it t x xs same),
        cond-true (x.to == t) xs (x ∷ but_first t xs) (test_yes x.to t same),
      )
  found t (x ∷ xs) (suc i) y at h e before =
      found_if t x xs i (before 0 x (omega arith))
      (found t xs i y at (omega (arith, h)) e (λ k d below. before (suc k) d (omega (arith, below))))

  pub not_found : (t : ℕ) (xs : List (Letter C))
      → ((k : ℕ) (d : Letter C) → k < length xs → (slice_index_or xs k d).to ≢ t)
      → (is_some (front (letters_to t xs)) ≡ false) × (but_first t xs ≡ xs)
  not_found t [] none = (refl, refl)
  not_found t (x ∷ xs) none =
      let apart : x.to ≢ t = none 0 x (omega arith) in
      let rest = not_found t xs (λ k d below. none (suc k) d (omega (arith, below))) in (
        ap (λ z. is_some (front z)) (to_another t x xs apart) ∙ rest.0,
        cond-false (x.to == t) xs (x ∷ but_first t xs) (test_no x.to t apart) ∙ ap (λ z. x ∷ z) rest.1,
      )

  -- neither is one more
  pub one_more_not : (t : ℕ) (xs : List (Letter C)) (i : ℕ) (y : Letter C) → y ≡ slice_index_or xs i y → i < length xs
      → y.to ≢ t → ((k : ℕ) (d : Letter C) → k < i → (slice_index_or xs k d).to ≢ t) → (k : ℕ) (d : Letter C)
      → k < i + 1 → (slice_index_or xs k d).to ≢ t
  one_more_not t xs i y at h apart before k d below = ⊎_elim
      (λ (e : k ≡ i). subst (λ j. (slice_index_or xs j d).to ≢ t) (sym e) (λ f. apart (ap (λ (z : Letter C). z.to) (at ∙ get_or_default xs i y d h) ∙ f)))
      (λ (e : k ≢ i). before k d (omega (arith, below, e)))
      (cases_eq k i)
