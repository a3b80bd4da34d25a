-- Sets of members.
use Rattle.std.proofs.Common.{◌≡◌, ◌⊎◌, inl, inr, ⊎_elim, ℕ, zero, suc, ◌+◌, ◌<◌, ◌≤◌, Bool, true, false, true≢false}
use Rattle.std.proofs.Common.{List, [], ◌∷◌, length, replicate, refl, sym, ap, subst, arith}
use Rattle.std.specs.List.{range_with_len}
use Rattle.std.specs.Prelude.{slice_index_or}
use Rattle.std.proofs.lemmas.Bool.Decides.{nat_tests}
use Rattle.object.specs.Lists.{In}
use Rattle.ballot.specs.Members.{is_member, numbers, nobody, has, add}

none_of : (n i : ℕ) → slice_index_or (replicate n false) i false ≡ true → ⊥
none_of zero i e = true≢false (sym e)
none_of (suc n) zero e = true≢false (sym e)
none_of (suc n) (suc i) e = none_of n i e

pub nobody_has : {P : Type 0} (m : ℕ) → has nobody m ≡ true → P
nobody_has zero e = absurd (true≢false (sym e))
nobody_has (suc i) e = absurd (none_of 7 i e)

pub has_add : (row : List Bool) (n m : ℕ) → has (add row n) m ≡ true → (m ≡ n) ⊎ (has row m ≡ true)
has_add row zero m e = inr e
has_add row (suc i) zero e = inr e
has_add [] (suc i) (suc j) e = inr e
has_add (b ∷ bs) (suc zero) (suc zero) e = inl refl
has_add (b ∷ bs) (suc zero) (suc (suc j)) e = inr e
has_add (b ∷ bs) (suc (suc i)) (suc zero) e = inr e
has_add (b ∷ bs) (suc (suc i)) (suc (suc j)) e =
    ⊎_elim (λ (x : suc j ≡ suc i). inl (ap suc x)) (λ (h : has bs (suc j) ≡ true). inr h) (has_add bs (suc i) (suc j) e)

pub member_bounds : (ws : List ℕ) (n : ℕ) → is_member ws n ≡ true → (1 ≤ n) × (n ≤ length ws)
member_bounds ws n h = (grind (arith, nat_tests), grind (arith, nat_tests))

In-range : (len base i : ℕ) → i < len → In (base + i) (range_with_len base len)
In-range zero base i h = absurd (omega arith)
In-range (suc len) base zero h = inl (omega arith)
In-range (suc len) base (suc i) h = inr (subst (λ m. In m (range_with_len (base + 1) len)) (omega arith) (In-range len (base + 1) i (omega arith)))

pub In-numbers : (ws : List ℕ) (n : ℕ) → is_member ws n ≡ true → In n (numbers ws)
In-numbers ws zero h = absurd (grind (arith, nat_tests))
In-numbers ws (suc i) h = subst (λ m. In m (numbers ws)) (omega arith) (In-range (length ws) 1 i (grind (arith, nat_tests)))

range_from : (len base m : ℕ) → In m (range_with_len base len) → (base ≤ m) × (m < base + len)
range_from zero base m i = absurd i
range_from (suc len) base m (inl e) = (omega arith, omega arith)
range_from (suc len) base m (inr i) = let h = range_from len (base + 1) m i in (omega (arith, h.0), omega (arith, h.1))

pub numbers_members : (ws : List ℕ) (m : ℕ) → In m (numbers ws) → is_member ws m ≡ true
numbers_members ws m i = let h = range_from (length ws) 1 m i in let a = h.0 in let b = h.1 in grind (arith, nat_tests)
