-- Two majorities share a member.
use Rattle.std.proofs.Common.{◌≡◌, ◌⊎◌, inl, inr, ⊎_elim, ℕ, zero, suc, ◌+◌, ◌*◌, ◌<◌, ◌≤◌, Bool, true, false, List, [], ◌∷◌, length, sum, refl, arith}
use Rattle.std.specs.Prelude.{slice_index_or}
use Rattle.std.proofs.lemmas.Bool.Decides.{nat_tests}
use Rattle.std.proofs.lemmas.List.Sums.{sum_by-cons}
use Rattle.ballot.specs.Members.{is_member, has, weigh, is_majority}

-- a place of a member where both tests hold
abbrev Shared : List ℕ → List Bool → List Bool → Type 0
Shared ws a b = (i : ℕ) × (slice_index_or a i false ≡ true) × (slice_index_or b i false ≡ true) × (i < length ws)

deeper : (w : ℕ) (ws : List ℕ) (x y : Bool) (a b : List Bool) → Shared ws a b → Shared (w ∷ ws) (x ∷ a) (y ∷ b)
deeper w ws x y a b s = let h = s.3 in (suc s.0, s.1, s.2, omega arith)

pub sum-cons : (w : ℕ) (ws : List ℕ) → sum (w ∷ ws) ≡ w + sum ws
sum-cons w ws = sum_by-cons (λ x. x) w ws

pub weigh-le : (ws : List ℕ) (a : List Bool) → weigh ws a ≤ sum ws
weigh-le [] a = omega arith
weigh-le (w ∷ ws) [] = omega arith
weigh-le (w ∷ ws) (true ∷ a) = let h = weigh-le ws a in omega (arith, sum-cons w ws)
weigh-le (w ∷ ws) (false ∷ a) = let h = weigh-le ws a in omega (arith, sum-cons w ws)

-- sets that share nobody weigh no more than the whole
apart : (ws : List ℕ) (a b : List Bool) → Shared ws a b ⊎ (weigh ws a + weigh ws b ≤ sum ws)
apart [] a b = inr (omega arith)
apart (w ∷ ws) [] b = inr (let h = weigh-le (w ∷ ws) b in omega arith)
apart (w ∷ ws) (x ∷ a) [] = inr (let h = weigh-le (w ∷ ws) (x ∷ a) in omega arith)
apart (w ∷ ws) (true ∷ a) (true ∷ b) = inl (zero, refl, refl, omega arith)
apart (w ∷ ws) (true ∷ a) (false ∷ b) =
    ⊎_elim (λ (s : Shared ws a b). inl (deeper w ws true false a b s))
    (λ (h : weigh ws a + weigh ws b ≤ sum ws). inr (omega (arith, sum-cons w ws))) (apart ws a b)
apart (w ∷ ws) (false ∷ a) (true ∷ b) =
    ⊎_elim (λ (s : Shared ws a b). inl (deeper w ws false true a b s))
    (λ (h : weigh ws a + weigh ws b ≤ sum ws). inr (omega (arith, sum-cons w ws))) (apart ws a b)
apart (w ∷ ws) (false ∷ a) (false ∷ b) =
    ⊎_elim (λ (s : Shared ws a b). inl (deeper w ws false false a b s))
    (λ (h : weigh ws a + weigh ws b ≤ sum ws). inr (omega (arith, sum-cons w ws))) (apart ws a b)

-- a majority weighs more than half of the whole
above_half : (weights : List ℕ) (a : List Bool) → is_majority weights a ≡ true → sum weights < 2 * weigh weights a
above_half weights a h = grind (arith, nat_tests)

pub share : (weights : List ℕ) (a b : List Bool) → is_majority weights a ≡ true → is_majority weights b ≡ true → (m : ℕ)
    × (has a m ≡ true) × (has b m ≡ true) × (is_member weights m ≡ true)
share weights a b h k =
    ⊎_elim (λ (s : Shared weights a b). let within = s.3 in (suc s.0, s.1, s.2, grind (arith, nat_tests)))
    (λ (e : weigh weights a + weigh weights b ≤ sum weights). let i = above_half weights a h in let j =
    above_half weights b k in absurd (omega arith)) (apart weights a b)
