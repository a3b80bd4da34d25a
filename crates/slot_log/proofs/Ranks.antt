-- Requests by their rank.
use Rattle.std.proofs.Common.{◌≡◌, ◌⊎◌, inl, inr, ℕ, zero, suc, ◌+◌, ◌-◌, ◌<◌, ◌≤◌, Bool, true, false, cond, nat_le, Some}
use Rattle.std.proofs.Common.{None, List, [], ◌∷◌, ◌++◌, length, refl, sym, ap, ◌∙◌, arith}
use Rattle.std.proofs.lemmas.Bool.Decides.{nat_tests}
use Rattle.std.proofs.lemmas.Option.{same_Some, slice_get_within}
use Rattle.std.specs.List.{slice_get}
use Rattle.slot_log.specs.Places.{ranked}

got_more : {C : Type 0} (xs more : List C) (i : ℕ) (c : C) → slice_get xs i ≡ Some c → slice_get (xs ++ more) i ≡ Some c
got_more [] more i c got = cc
got_more (x ∷ xs) more zero c got = got
got_more (x ∷ xs) more (suc i) c got = got_more xs more i c got

got_last : {C : Type 0} (xs : List C) (x : C) → slice_get (xs ++ x ∷ []) (length xs) ≡ Some x
got_last [] x = refl
got_last (y ∷ xs) x = got_last xs x

le_true : (a b : ℕ) → a ≤ b → nat_le a b ≡ true
le_true a b h = grind (arith, nat_tests)

true_le : (a b : ℕ) → nat_le a b ≡ true → a ≤ b
true_le a b h = grind (arith, nat_tests)

-- a rank that has a request
pub record HasRank {C : Type 0} (xs : List C) (front rank : ℕ) (c : C) : Type 0 where
  pub index : ℕ
  pub is : rank ≡ front + index
  pub got : slice_get xs index ≡ Some c

module _ {C : Type 0} where
  -- the request of a place in the list
  pub ranked_at : (xs : List C) (front rank i : ℕ) → rank ≡ front + i → ranked xs front rank ≡ slice_get xs i
  ranked_at xs front rank i is =
      let low : front ≤ rank = omega arith in
      let far : rank - front ≡ i = omega arith in
      ap (λ b. cond b (slice_get xs (rank - front)) None) (le_true front rank low) ∙ ap (slice_get xs) far

  pub rank_of : (xs : List C) (front rank : ℕ) (c : C) → ranked xs front rank ≡ Some c → HasRank xs front rank c
  rank_of xs front rank c got = go (nat_le front rank) refl got
    where
      go : (b : Bool) → nat_le front rank ≡ b → cond b (slice_get xs (rank - front)) None ≡ Some c → HasRank xs front rank c
      go true t g = let low = true_le front rank t in record { index = rank - front; is = omega arith; got = g }
      go false t g = cc

  -- other requests behind them
  pub ranked_more : (xs more : List C) (front rank : ℕ) (c : C) → ranked xs front rank ≡ Some c → ranked (xs ++ more) front rank ≡ Some c
  ranked_more xs more front rank c got =
      let at = rank_of xs front rank c got in
      ranked_at (xs ++ more) front rank at.index at.is ∙ got_more xs more at.index c at.got

  -- the last one
  pub ranked_last : (xs : List C) (x : C) (front rank : ℕ) → rank ≡ front + length xs → ranked (xs ++ x ∷ []) front rank ≡ Some x
  ranked_last xs x front rank is = ranked_at (xs ++ x ∷ []) front rank (length xs) is ∙ got_last xs x

  behind : (x : C) (xs : List C) (front rank i : ℕ) (c : C) → rank ≡ front + i → slice_get (x ∷ xs) i ≡ Some c → (c ≡ x) ⊎ (ranked xs (front + 1) rank ≡ Some c)
  behind x xs front rank zero c is got = inl (sym (same_Some x c got))
  behind x xs front rank (suc i) c is got = inr (ranked_at xs (front + 1) rank i (omega arith) ∙ got)

  -- the first one leaves
  pub ranked_rest : (x : C) (xs : List C) (front rank : ℕ) (c : C) → ranked (x ∷ xs) front rank ≡ Some c → (c ≡ x) ⊎ (ranked xs (front + 1) rank ≡ Some c)
  ranked_rest x xs front rank c got =
      let at = rank_of (x ∷ xs) front rank c got in
      behind x xs front rank at.index c at.is at.got

  -- ranks of requests are below that of the next one
  pub rank_within : (xs : List C) (front rank : ℕ) (c : C) → ranked xs front rank ≡ Some c → rank < front + length xs
  rank_within xs front rank c got =
      let at = rank_of xs front rank c got in
      let is = at.is in
      let low = slice_get_within xs at.index c at.got in
      omega arith
