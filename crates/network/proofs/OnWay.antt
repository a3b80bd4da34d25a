-- The letters that are on their way to a node: those in its mail, and behind them those that aren't sorted into it yet.
use Rattle.std.proofs.Common.{◌≡◌, inl, inr, ⊎_elim, Bool, true, false, cond, ◌==◌, ℕ, zero, suc, ◌+◌, ◌-◌, ◌<◌, ◌≤◌, List, [], ◌∷◌, ◌++◌, drop}
use Rattle.std.proofs.Common.{length, Option, Some, refl, sym, ap, ap₂, ◌∙◌, subst, arith}
use Rattle.std.specs.Prelude.{slice_index_or, slice_set, is_some}
use Rattle.std.proofs.lemmas.Bool.{false≢true}
use Rattle.std.proofs.lemmas.List.{append-nil, get_or_default}
use Rattle.std.proofs.lemmas.Option.{same_Some}
use Rattle.object.specs.Lists.{In}
use Rattle.ballot.specs.declared.letter.Letter.{Letter}
use Rattle.network.specs.Networks.{mail_in, front, letters_to, put_mail, posted}
use Rattle.network.specs.Posting.{IsAmong, IsBetween, AreBetween, IsPost, on_way, but_first}
use Rattle.network.specs.MailLaws.{in_behind, length-posted}
use Rattle.network.proofs.Posts.{set_again, posted_at, posted_put, first_dropped, in_at, post_put, between_append}

pub mail_at : {C : Type 0} (mails : List (List (Letter C))) (n p : ℕ) (m : List (Letter C)) → p ≡ n - 1 → 1 ≤ n
    → p < length mails → m ≡ slice_index_or mails p m → m ≡ mail_in mails n
mail_at mails zero p m place low h at = absurd (omega (arith, low))
mail_at mails (suc i) p m place low h at =
    let here : p ≡ i = omega (arith, place) in
    at ∙ get_or_default mails p m [] h ∙ ap (λ j. slice_index_or mails j []) here

pub put_mail_at : {C : Type 0} (mails : List (List (Letter C))) (n p : ℕ) (x : List (Letter C)) → p ≡ n - 1 → 1 ≤ n → slice_set mails p x ≡ put_mail mails n x
put_mail_at mails zero p x place low = absurd (omega (arith, low))
put_mail_at mails (suc i) p x place low = let here : p ≡ i = omega (arith, place) in ap (λ j. slice_set mails j x) here

pub in_count : {count n p : ℕ} → p ≡ n - 1 → IsAmong count n → p < count
in_count place among = let low = among.0 in let high = among.1 in omega (arith, place, low, high)

front_and : {C : Type 0} (m ys : List (Letter C)) → is_some (front m) ≡ true → (is_some (front (m ++ ys)) ≡ true) × (drop 1 (m ++ ys) ≡ drop 1 m ++ ys)
front_and [] ys e = absurd (false≢true e)
front_and (z ∷ zs) ys e = (refl, refl)

no_front : {C : Type 0} (m : List (Letter C)) → is_some (front m) ≡ false → m ≡ []
no_front [] e = refl
no_front (z ∷ zs) e = absurd (false≢true (sym e))

in_front : {C : Type 0} (xs : List (Letter C)) (l : Letter C) → front xs ≡ Some l → In l xs
in_front [] l e = absurd (cc)
in_front (z ∷ zs) l e = inl (cc)

in_kept : {C : Type 0} (l x : Letter C) (xs rest : List (Letter C)) (test : Bool)
    → ((y : Letter C) → In y rest → In y xs) → In l (cond test xs (x ∷ rest)) → In l (x ∷ xs)
in_kept l x xs rest true sub at = inr at
in_kept l x xs rest false sub (inl e) = inl e
in_kept l x xs rest false sub (inr at) = inr (sub l at)

in_but_first : {C : Type 0} (n : ℕ) (xs : List (Letter C)) (l : Letter C) → In l (but_first n xs) → In l xs
in_but_first n [] l at = at
in_but_first n (x ∷ xs) l at = in_kept l x xs (but_first n xs) (x.to == n) (in_but_first n xs) at

-- m is mail n, and stands at p
module _ {C : Type 0} (mails : List (List (Letter C))) {n p : ℕ} (place : p ≡ n - 1) (among : IsAmong (length mails) n)
    (m : List (Letter C)) (at : m ≡ slice_index_or mails p m) where
  there : p < length mails
  there = in_count place among

  next : 1 + p ≡ n
  next = let low = among.0 in omega (arith, place, low)

  its_own : slice_index_or mails p [] ≡ m
  its_own = sym (at ∙ get_or_default mails p m [] there)

  -- whenever it is read
  pub read_same : (m2 : List (Letter C)) → m2 ≡ slice_index_or mails p m2 → m2 ≡ m
  read_same m2 at2 = at2 ∙ get_or_default mails p m2 m there ∙ sym at

  module _ (fresh : List (Letter C)) where
    still : p < length (posted fresh mails)
    still = subst (λ z. p < z) (sym (length-posted fresh mails)) there

    -- what is sorted stands before what isn't
    its_mail : on_way mails fresh n ≡ m ++ letters_to n fresh
    its_mail =
        sym (mail_at (posted fresh mails) n p (slice_index_or (posted fresh mails) p []) place among.0 still
        (get_or_default (posted fresh mails) p [] (slice_index_or (posted fresh mails) p []) still))
        ∙ posted_at 1 fresh mails p there
        ∙ ap₂ (λ a j. a ++ letters_to j fresh) its_own next

    put_is : (mail : List (Letter C)) → slice_set (posted fresh mails) p mail ≡ put_mail (posted fresh mails) n mail
    put_is mail = put_mail_at (posted fresh mails) n p mail place among.0

    -- the mail has a letter
    pub mail_filled : is_some (front m) ≡ true → true ≡ is_some (front (on_way mails fresh n))
    mail_filled filled = sym (ap (λ z. is_some (front z)) its_mail ∙ (front_and m (letters_to n fresh) filled).0)

    -- it has none
    mail_rest : is_some (front m) ≡ false → on_way mails fresh n ≡ letters_to n fresh
    mail_rest empty = its_mail ∙ ap (λ z. z ++ letters_to n fresh) (no_front m empty)

    pub late_does : is_some (front m) ≡ false → (does : Bool) → does ≡ is_some (front (letters_to n fresh)) → does ≡ is_some (front (on_way mails fresh n))
    late_does empty does e = e ∙ sym (ap (λ z. is_some (front z)) (mail_rest empty))

    -- a letter is lost
    module _ (left : List (Letter C)) (taken : left ≡ drop 1 m) where
      -- the mail had one
      pub lost_first : is_some (front m) ≡ true
          → posted fresh (slice_set mails p left) ≡ put_mail (posted fresh mails) n (drop 1 (on_way mails fresh n))
      lost_first filled =
          posted_put 1 fresh mails p left
          ∙ ap (slice_set (posted fresh mails) p)
          (ap₂ (λ a j. a ++ letters_to j fresh) taken next ∙ sym (front_and m (letters_to n fresh) filled).1 ∙ sym (ap (drop 1) its_mail))
          ∙ put_is (drop 1 (on_way mails fresh n))

      -- it had none
      module _ (empty : is_some (front m) ≡ false) where
        mails_stay : slice_set mails p left ≡ mails
        mails_stay = ap (slice_set mails p) (taken ∙ ap (drop 1) (no_front m empty) ∙ sym (no_front m empty)) ∙ set_again mails p m at

        pub lost_late : (fresh' : List (Letter C)) → fresh' ≡ but_first n fresh
            → posted fresh' (slice_set mails p left) ≡ put_mail (posted fresh mails) n (drop 1 (on_way mails fresh n))
        lost_late fresh' e =
            ap₂ (λ a b. posted a b) e mails_stay
            ∙ first_dropped 1 fresh mails p n (sym next)
            ∙ ap (slice_set (posted fresh mails) p)
            (ap (λ z. z ++ drop 1 (letters_to n fresh)) (its_own ∙ no_front m empty) ∙ sym (ap (drop 1) (mail_rest empty)))
            ∙ put_is (drop 1 (on_way mails fresh n))

    module _ (post : IsPost mails fresh) where
      its_letters : AreBetween (length mails) m
      its_letters = subst (AreBetween (length mails)) its_own (post.mailed (slice_index_or mails p []) (in_at mails p [] there))

      pub lost_post : (left : List (Letter C)) → left ≡ drop 1 m → IsPost (slice_set mails p left) fresh
      lost_post left taken = post_put mails fresh p left post (λ l i. its_letters l (in_behind m l (subst (In l) taken i)))

      pub late_post : (left : List (Letter C)) → left ≡ drop 1 m → (fresh' : List (Letter C)) → fresh' ≡ but_first n fresh
          → IsPost (slice_set mails p left) fresh'
      late_post left taken fresh' e = record {
        mailed = (lost_post left taken).mailed;
        unsorted = λ l i. (lost_post left taken).unsorted l (in_but_first n fresh l (subst (In l) e i));
      }

      pub same_post : (mail : List (Letter C)) → mail ≡ m → IsPost (slice_set mails p mail) fresh
      same_post mail same = post_put mails fresh p mail post (subst (AreBetween (length mails)) (sym same) its_letters)

      -- the letter in front goes to the back
      pub more_post : (l : Letter C) → front m ≡ Some l → (mail : List (Letter C)) → mail ≡ m ++ (l ∷ []) → IsPost (slice_set mails p mail) fresh
      more_post l first mail more = post_put mails fresh p mail post
          (subst (AreBetween (length mails)) (sym more) (between_append (length mails) m (l ∷ []) its_letters
          (λ z i. ⊎_elim (λ e. subst (IsBetween (length mails)) (sym e) (its_letters l (in_front m l first))) (λ no. absurd no) i)))

    -- every letter is sorted
    module _ (none : fresh ≡ []) where
      mail_read : m ≡ on_way mails fresh n
      mail_read = sym (its_mail ∙ ap (λ z. m ++ letters_to n z) none ∙ append-nil m)

      front_is : (o : Option (Letter C)) → front m ≡ o → front (on_way mails fresh n) ≡ o
      front_is o e = ap front (sym mail_read) ∙ e

      repeated_is : (l : Letter C) → front m ≡ Some l → (mail : List (Letter C)) → mail ≡ m ++ (l ∷ [])
          → (l2 : Letter C) → front (on_way mails fresh n) ≡ Some l2
          → posted fresh (slice_set mails p mail) ≡ put_mail (posted fresh mails) n (on_way mails fresh n ++ (l2 ∷ []))
      repeated_is l first mail more l2 e =
          posted_put 1 fresh mails p mail
          ∙ ap (slice_set (posted fresh mails) p)
          (ap (λ z. mail ++ letters_to (1 + p) z) none
          ∙ append-nil mail
          ∙ more
          ∙ ap₂ (λ a z. a ++ (z ∷ [])) mail_read (same_Some l l2 (sym (front_is (Some l) first) ∙ e)))
          ∙ put_is (on_way mails fresh n ++ (l2 ∷ []))

      -- as it was before they were
      module _ (was : List (List (Letter C))) (same : posted fresh mails ≡ was) where
        pub front_was : (o : Option (Letter C)) → front m ≡ o → front (mail_in was n) ≡ o
        front_was o e = subst (λ z. front (mail_in z n) ≡ o) same (front_is o e)

        pub stays_was : (mail : List (Letter C)) → mail ≡ m → posted fresh (slice_set mails p mail) ≡ was
        stays_was mail e = ap (posted fresh) (ap (slice_set mails p) e ∙ set_again mails p m at) ∙ same

        pub repeated_was : (l : Letter C) → front m ≡ Some l → (mail : List (Letter C)) → mail ≡ m ++ (l ∷ [])
            → (l2 : Letter C) → front (mail_in was n) ≡ Some l2
            → posted fresh (slice_set mails p mail) ≡ put_mail was n (mail_in was n ++ (l2 ∷ []))
        repeated_was l first mail more l2 = subst
            (λ z. front (mail_in z n) ≡ Some l2
            → posted fresh (slice_set mails p mail) ≡ put_mail z n (mail_in z n ++ (l2 ∷ []))) same
            (repeated_is l first mail more l2)
