-- A log goes over the slots before one from which it goes on.
use Rattle.std.proofs.Common.{◌≡◌, ⊎_elim, ◌<◌, ◌≤◌, ◌+◌, ◌-◌, ℕ, zero, suc, min, nat_le, Bool, true, false, true≢false, cond}
use Rattle.std.proofs.Common.{List, [], ◌++◌, None, refl, sym, ap, ap₂, ◌∙◌, append-nil, append_assoc, arith}
use Rattle.std.proofs.lemmas.Bool.{cases_lt, false≢true}
use Rattle.std.proofs.lemmas.Bool.Decides.{nat_tests}
use Rattle.std.specs.Prelude.{flat_map}
use Rattle.std.specs.List.{range_with_len}
use Rattle.std.specs.Option.{is_some, option_to_list}
use Rattle.std.specs.Ordering.{nat_cmp, eq_by_cmp}
use Rattle.std.specs.Cmp.{nat_cmp_total}
use Rattle.std.specs.FinMap.{get, remove, get-remove}
use Rattle.ballot.specs.Slots.{Slots}
use Rattle.ballot.specs.Rests.{kept_from}
use Rattle.ballot.proofs.SlotMaps.{same_slots, same_key}
use Rattle.ballot.proofs.Rests.{get_above, get_high}
use Rattle.slot_log.specs.Books.{SlotBook, window}
use Rattle.slot_log.specs.CatchingUp.{skipped, proposed_upto, book_from}
use Rattle.slot_log.specs.Proposals.{IsInWindow}
use Rattle.slot_log.specs.Rests.{rest_of_book}
use Rattle.slot_log.proofs.Forgetting.{kept_all, low_gone}
use Rattle.slot_log.proofs.Maps.{none_from}

-- a range in two
pub flat_two : {A : Type 0} (f : ℕ → List A) (a n k : ℕ)
    → flat_map f (range_with_len a (n + k)) ≡ flat_map f (range_with_len a n) ++ flat_map f (range_with_len (a + n) k)
flat_two f a zero k = ap₂ (λ x y. flat_map f (range_with_len x y)) (omega arith) (omega arith)
flat_two f a (suc n) k =
    let more : suc n + k ≡ suc (n + k) = omega arith in
    let next : a + 1 + n ≡ a + suc n = omega arith in
    ap (λ m. flat_map f (range_with_len a m)) more
    ∙ ap (λ l. f a ++ l) (flat_two f (a + 1) n k)
    ∙ sym (append_assoc (f a) (flat_map f (range_with_len (a + 1) n)) (flat_map f (range_with_len (a + 1 + n) k)))
    ∙ ap (λ j. (f a ++ flat_map f (range_with_len (a + 1) n)) ++ flat_map f (range_with_len j k)) next

-- a range with nothing
flat_none : {A : Type 0} (f : ℕ → List A) (a n : ℕ) → ((s : ℕ) → a ≤ s → s < a + n → f s ≡ []) → flat_map f (range_with_len a n) ≡ []
flat_none f a zero h = refl
flat_none f a (suc n) h =
    ap₂ (λ l r. l ++ r) (h a (omega arith) (omega arith)) (flat_none f (a + 1) n (λ s low high. h s (omega arith) (omega arith)))

module _ {X : Type 0} where
  pub remove_kept : (m : Slots X) (s : ℕ) → remove (kept_from s m) s ≡ kept_from (s + 1) m
  remove_kept m s = same_slots _ _ (λ q.
      get-remove nat_cmp_total (kept_from s m) s q
      ∙ ap (λ o. cond (eq_by_cmp nat_cmp q s) None o) (get_above s m q)
      ∙ by_tests q (eq_by_cmp nat_cmp q s) (nat_le s q) (nat_le (s + 1) q) refl refl refl
      ∙ sym (get_above (s + 1) m q))
    where
      not_above : (q : ℕ) → q ≡ s → nat_le (s + 1) q ≡ false
      not_above q e = grind (arith, nat_tests)

      is_above : (q : ℕ) → eq_by_cmp nat_cmp q s ≡ false → nat_le s q ≡ true → nat_le (s + 1) q ≡ true
      is_above q e f = grind (arith, nat_tests)

      also_low : (q : ℕ) → nat_le (s + 1) q ≡ true → nat_le s q ≡ true
      also_low q g = grind (arith, nat_tests)

      by_tests : (q : ℕ) (same low high : Bool) → eq_by_cmp nat_cmp q s ≡ same → nat_le s q ≡ low
          → nat_le (s + 1) q ≡ high
          → cond same None (cond low (get m q) None) ≡ cond high (get m q) None
      by_tests q true low true e f g = absurd (true≢false (sym g ∙ not_above q (same_key s q e)))
      by_tests q true low false e f g = refl
      by_tests q false true true e f g = refl
      by_tests q false false false e f g = refl
      by_tests q false true false e f g = absurd (true≢false (sym (is_above q e f) ∙ g))
      by_tests q false false true e f g = absurd (true≢false (sym (also_low q g) ∙ f))

  -- what is kept stands from the base on
  kept_high : (base : ℕ) (m : Slots X) (s : ℕ) → is_some (get (kept_from base m) s) ≡ true → base ≤ s
  kept_high base m s there =
      ⊎_elim (λ (low : s < base). absurd (false≢true (ap is_some (sym (low_gone base m s low)) ∙ there)))
      (λ (high : base ≤ s). high) (cases_lt s base)

  -- nothing stands between the bases
  kept_alike : (low high : ℕ) (m : Slots X) → low ≤ high → ((s : ℕ) → low ≤ s → s < high → get m s ≡ None) → kept_from low m ≡ kept_from high m
  kept_alike low high m h none = same_slots _ _ (λ q.
      ⊎_elim (λ (l : q < low). low_gone low m q l ∙ sym (low_gone high m q (omega arith)))
      (λ (l : low ≤ q).
      get_high low m q l ∙ ⊎_elim (λ (k : q < high). none q l k ∙ sym (low_gone high m q k))
      (λ (k : high ≤ q). sym (get_high high m q k)) (cases_lt q high))
      (cases_lt q low))

module _ {C : Type 0} (book : SlotBook C) where
  abbrev proposed_at : ℕ → List C
  proposed_at s = option_to_list (get book.proposals s)

  proposed_in_two : (n m : ℕ) → book.slot_out ≤ n → n ≤ m
      → proposed_upto m book ≡ proposed_upto n book ++ flat_map proposed_at (range_with_len n (m - n))
  proposed_in_two n m low high =
      let out = book.slot_out in
      let count : m - out ≡ n - out + (m - n) = omega arith in
      let last : out + (n - out) ≡ n = omega arith in
      ap (λ l. flat_map proposed_at (range_with_len out l)) count
      ∙ flat_two proposed_at out (n - out) (m - n)
      ∙ ap (λ s. flat_map proposed_at (range_with_len out (n - out)) ++ flat_map proposed_at (range_with_len s (m - n))) last

  -- one slot more
  pub proposed_more : (n : ℕ) → book.slot_out ≤ n → proposed_upto n book ++ option_to_list (get book.proposals n) ≡ proposed_upto (n + 1) book
  proposed_more n low =
      let one : n + 1 - n ≡ 1 = omega arith in
      sym (proposed_in_two n (n + 1) low (omega arith)
      ∙ ap (λ k. proposed_upto n book ++ flat_map proposed_at (range_with_len n k)) one
      ∙ ap (λ xs. proposed_upto n book ++ xs) (append-nil (proposed_at n)))

  -- the book with the slots before this one gone over
  abbrev pub gone_over : ℕ → SlotBook C
  gone_over n = record book {
    slot_out = n;
    requests = book.requests ++ proposed_upto n book;
    proposals = kept_from n book.proposals;
  }

  pub over_none : ((s : ℕ) → is_some (get book.proposals s) ≡ true → IsInWindow book.slot_out s) → book ≡ gone_over book.slot_out
  over_none near =
      let out = book.slot_out in
      let none : out - out ≡ 0 = omega arith in
      let requests : book.requests ++ proposed_upto out book ≡ book.requests =
      ap (λ n. book.requests ++ flat_map proposed_at (range_with_len out n)) none ∙ append-nil book.requests in
      let proposals = kept_all out book.proposals (λ s there. (near s there).low) in
      λ i. record book { requests = sym requests i; proposals = sym proposals i }

  pub over_more : (n : ℕ) → book.slot_out ≤ n → skipped (gone_over n) ≡ gone_over (n + 1)
  over_more n low =
      let requests : (book.requests ++ proposed_upto n book) ++ option_to_list (get (kept_from n book.proposals) n)
      ≡ book.requests ++ proposed_upto (n + 1) book =
      ap (λ o. (book.requests ++ proposed_upto n book) ++ option_to_list o) (get_high n book.proposals n (omega arith))
      ∙ append_assoc book.requests (proposed_upto n book) (proposed_at n)
      ∙ ap (λ xs. book.requests ++ xs) (proposed_more n low) in
      let proposals = remove_kept book.proposals n in
      λ i. record book { slot_out = n + 1; requests = requests i; proposals = proposals i }

  -- all is gone over where the window ends
  module _ (near : (s : ℕ) → is_some (get book.proposals s) ≡ true → IsInWindow book.slot_out s) (slot n : ℕ) (low : book.slot_out ≤ slot)
      (end : n ≡ min slot (book.slot_out + window)) where
    none_between : (s : ℕ) → n ≤ s → s < slot → get book.proposals s ≡ None
    none_between s from upto = none_from (get book.proposals s) (λ there. let high = (near s there).high in absurd (omega arith))

    alike : kept_from n book.proposals ≡ kept_from slot book.proposals
    alike = kept_alike n slot book.proposals (omega arith) none_between

    pub over_high : (s : ℕ) → is_some (get (gone_over n).proposals s) ≡ true → slot ≤ s
    over_high s there = kept_high slot book.proposals s (ap (λ (m : Slots C). is_some (get m s)) (sym alike) ∙ there)

    all_proposed : proposed_upto n book ≡ proposed_upto slot book
    all_proposed =
        let none = flat_none proposed_at n (slot - n) (λ s from upto. ap option_to_list (none_between s from (omega arith))) in
        sym (proposed_in_two n slot (omega arith) (omega arith)
        ∙ ap (λ xs. proposed_upto n book ++ xs) none ∙ append-nil (proposed_upto n book))

    pub over_all : rest_of_book slot (record (gone_over n) { slot_out = slot }) ≡ book_from slot book
    over_all = λ i. record (rest_of_book slot book) {
      slot_out = slot;
      requests = book.requests ++ all_proposed i;
      proposals = alike i;
    }
