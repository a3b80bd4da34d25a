-- What is in the mails.
use Rattle.std.proofs.Common.{◌≡◌, ◌≢◌, ◌⊎◌, inl, inr, ⊎_elim, ℕ, zero, suc, ◌+◌, ◌==◌, Bool, true, false, cond, List}
use Rattle.std.proofs.Common.{[], ◌∷◌, map, drop, length, refl, ap, ◌∙◌, arith, length-set}
use Rattle.std.specs.Prelude.{slice_index_or, slice_set}
use Rattle.std.specs.List.{filter}
use Rattle.std.proofs.lemmas.Bool.Decides.{nat_tests}
use Rattle.std.proofs.lemmas.List.{get_or-set_other}
use Rattle.object.specs.Lists.{In}
use Rattle.object.specs.ListLaws.{In-cases}
use Rattle.ballot.specs.declared.letter.Letter.{Letter}
use Rattle.network.specs.Networks.{mail_in, put_mail, letters_to, posted_from, posted}

-- what a filter keeps is in the list, and passes the test
of_filter_if : {A : Type 0} (test : A → Bool) (x y : A) (xs rest : List A) (passes : Bool) → test y ≡ passes
    → (In x rest → In x xs × (test x ≡ true)) → In x (cond passes (y ∷ rest) rest) → In x (y ∷ xs) × (test x ≡ true)
of_filter_if test x y xs rest true is sub (inl e) = (inl e, ap test e ∙ is)
of_filter_if test x y xs rest true is sub (inr at) = let h = sub at in (inr h.0, h.1)
of_filter_if test x y xs rest false is sub at = let h = sub at in (inr h.0, h.1)

pub of_filter : {A : Type 0} (test : A → Bool) (x : A) (xs : List A) → In x (filter test xs) → In x xs × (test x ≡ true)
of_filter test x [] at = absurd at
of_filter test x (y ∷ xs) at = of_filter_if test x y xs (filter test xs) (test y) refl (of_filter test x xs) at

same_number : (a b : ℕ) → (a == b) ≡ true → a ≡ b
same_number a b h = grind (arith, nat_tests)

module _ {C : Type 0} where
  in_letters_to : (n : ℕ) (letters : List (Letter C)) (l : Letter C) → In l (letters_to n letters) → In l letters × (l.to ≡ n)
  in_letters_to n letters l at = let h = of_filter (λ (k : Letter C). k.to == n) l letters at in (h.0, same_number l.to n h.1)

  in_posted_from : (n : ℕ) (letters : List (Letter C)) (mails : List (List (Letter C))) (i t : ℕ) (l : Letter C)
      → t ≡ n + i → In l (slice_index_or (posted_from n letters mails) i []) → In l (slice_index_or mails i [])
      ⊎ (In l letters × (l.to ≡ t))
  in_posted_from n letters [] i t l e at = absurd at
  in_posted_from n letters (m ∷ ms) zero t l e at = ⊎_elim
      (λ (h : In l m). inl h)
      (λ (h : In l (letters_to n letters)). let to = in_letters_to n letters l h in inr (to.0, omega (arith, e, to.1)))
      (In-cases l m (letters_to n letters) at)
  in_posted_from n letters (m ∷ ms) (suc i) t l e at = in_posted_from (suc n) letters ms i t l (omega (arith, e)) at

  -- a letter in the mail of node n was there before, or is one of those that were posted, and to it
  pub in_posted : (letters : List (Letter C)) (mails : List (List (Letter C))) (n : ℕ) (l : Letter C)
      → In l (mail_in (posted letters mails) n) → In l (mail_in mails n) ⊎ (In l letters × (l.to ≡ n))
  in_posted letters mails zero l at = absurd at
  in_posted letters mails (suc i) l at = in_posted_from 1 letters mails i (suc i) l (omega arith) at

  length-posted_from : (n : ℕ) (letters : List (Letter C)) (mails : List (List (Letter C))) → length (posted_from n letters mails) ≡ length mails
  length-posted_from n letters [] = refl
  length-posted_from n letters (m ∷ ms) = ap suc (length-posted_from (suc n) letters ms)

  pub length-posted : (letters : List (Letter C)) (mails : List (List (Letter C))) → length (posted letters mails) ≡ length mails
  length-posted letters mails = length-posted_from 1 letters mails

  -- another mail in the place of mail n
  in_set : (mails : List (List (Letter C))) (i : ℕ) (mail : List (Letter C)) (l : Letter C) → In l (slice_index_or (slice_set mails i mail) i []) → In l mail
  in_set [] i mail l at = absurd at
  in_set (m ∷ ms) zero mail l at = at
  in_set (m ∷ ms) (suc i) mail l at = in_set ms i mail l at

  pub in_put_mail : (mails : List (List (Letter C))) (n : ℕ) (mail : List (Letter C)) (l : Letter C) → In l (mail_in (put_mail mails n mail) n) → In l mail
  in_put_mail mails zero mail l at = absurd at
  in_put_mail mails (suc i) mail l at = in_set mails i mail l at

  pub mail_put_other : (mails : List (List (Letter C))) (n : ℕ) (mail : List (Letter C)) (m : ℕ) → m ≢ n → mail_in (put_mail mails n mail) m ≡ mail_in mails m
  mail_put_other mails zero mail m apart = refl
  mail_put_other mails (suc i) mail zero apart = refl
  mail_put_other mails (suc i) mail (suc j) apart = get_or-set_other mails i j mail [] (λ e. apart (ap suc e))

  pub length-put_mail : (mails : List (List (Letter C))) (n : ℕ) (mail : List (Letter C)) → length (put_mail mails n mail) ≡ length mails
  length-put_mail mails zero mail = refl
  length-put_mail mails (suc i) mail = length-set mails i mail

  -- what is behind the front
  pub in_behind : (mail : List (Letter C)) (l : Letter C) → In l (drop 1 mail) → In l mail
  in_behind [] l at = at
  in_behind (k ∷ ks) l at = inr at

  -- no mail of a new network has a letter
  none_at : (numbers : List ℕ) (i : ℕ) → mail_in {C = C} (map (λ _. []) numbers) (suc i) ≡ []
  none_at [] i = refl
  none_at (k ∷ ks) zero = refl
  none_at (k ∷ ks) (suc i) = none_at ks i

  pub new_mail : (numbers : List ℕ) (n : ℕ) → mail_in {C = C} (map (λ _. []) numbers) n ≡ []
  new_mail numbers zero = refl
  new_mail numbers (suc i) = none_at numbers i
