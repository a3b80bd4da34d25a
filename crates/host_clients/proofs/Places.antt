-- A session has one seat.
use Rattle.std.proofs.lemmas.Option.{same_Some}
use Rattle.std.proofs.Common.{◌≡◌, ◌≢◌, ◌⊎◌, inl, inr, ⊎_elim, ◌<◌, ◌-◌, ◌/◌, ◌%◌, ℕ, zero, suc, List, [], ◌∷◌, ◌++◌, Some, length, refl, sym, ap, arith}
use Rattle.std.specs.Prelude.{slice_get, slice_set, slice_index_or}
use Rattle.host_clients.specs.Clients.{ClientsState, HasSeat, IsEarlier}

pub one_place : {Op Reply : Type 0} (s : ClientsState Op Reply) (session p q : ℕ) → HasSeat s session p → HasSeat s session q
    → p ≡ q
one_place s session p q a b = let x = a.number in let y = b.number in omega (arith, x, y)

-- what is at a place of a list
pub at_place : {X : Type 0} (xs : List X) (place : ℕ) (x : X) → place < length xs → x ≡ slice_index_or xs place x
    → slice_get xs place ≡ Some x
at_place [] place x h e = absurd (omega (arith, h))
at_place (y ∷ ys) zero x h e = ap Some (sym e)
at_place (y ∷ ys) (suc place) x h e = at_place ys place x (omega (arith, h)) e

pub set_length : {X : Type 0} (xs : List X) (place : ℕ) (x : X) → length (slice_set xs place x) ≡ length xs
set_length [] place x = refl
set_length (y ∷ ys) zero x = omega arith
set_length (y ∷ ys) (suc place) x = let rest = set_length ys place x in omega (arith, rest)

pub none_of : {X : Type 0} (xs : List X) → length xs ≡ 0 → xs ≡ []
none_of [] e = refl
none_of (x ∷ xs) e = absurd (omega (arith, e))

-- what is at a place once one was set, or put behind
pub set_cases : {X : Type 0} (xs : List X) (p q : ℕ) (x y : X) → slice_get (slice_set xs p x) q ≡ Some y
    → ((q ≡ p) × (y ≡ x)) ⊎ ((q ≢ p) × (slice_get xs q ≡ Some y))
set_cases [] p q x y e = absurd (cc)
set_cases (z ∷ zs) zero zero x y e = inl (refl, sym (same_Some x y e))
set_cases (z ∷ zs) zero (suc q) x y e = inr (λ h. absurd (omega (arith, h)), e)
set_cases (z ∷ zs) (suc p) zero x y e = inr (λ h. absurd (omega (arith, h)), e)
set_cases (z ∷ zs) (suc p) (suc q) x y e = ⊎_elim
    (λ (a : (q ≡ p) × (y ≡ x)). inl (ap suc a.0, a.1))
    (λ (b : (q ≢ p) × (slice_get zs q ≡ Some y)). inr (λ h. b.0 (omega (arith, h)), b.1))
    (set_cases zs p q x y e)

pub more_cases : {X : Type 0} (xs : List X) (q : ℕ) (x y : X) → slice_get (xs ++ (x ∷ [])) q ≡ Some y
    → ((q ≡ length xs) × (y ≡ x)) ⊎ (slice_get xs q ≡ Some y)
more_cases [] zero x y e = inl (refl, sym (same_Some x y e))
more_cases [] (suc q) x y e = absurd (cc)
more_cases (z ∷ zs) zero x y e = inr e
more_cases (z ∷ zs) (suc q) x y e = ⊎_elim
    (λ (a : (q ≡ length zs) × (y ≡ x)). inl (let same = a.0 in omega (arith, same), a.1))
    (λ (b : slice_get zs q ≡ Some y). inr b)
    (more_cases zs q x y e)

-- steps of 8 lead from an earlier session to the first one
pub steps_lead : {Op Reply : Type 0} (s : ClientsState Op Reply) (session : ℕ) → 0 < session → session < s.first
    → (s.first - session) % 8 ≡ 0 → IsEarlier s session
steps_lead s session some low even = record {
  steps = (s.first - session) / 8 - 1;
  below = omega (arith, some, low, even);
  client = some;
}
