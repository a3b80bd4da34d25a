-- Weights put into a row of seven.
use Rattle.std.proofs.Common.{◌≡◌, ◌∙◌, sym, ap, ap₂, subst, ℕ, zero, suc, ◌<◌, ◌≤◌, true, List, ◌++◌, length, take, drop, replicate, refl}
use Rattle.std.specs.Prelude.{SomeIff, Option, None, Some}
use Rattle.std.specs.List.{list_all}
use Rattle.std.proofs.Math.Seq.{take-append_seam}
use Rattle.std.proofs.lemmas.List.{drop-replicate, length-replicate}
use Rattle.ballot.specs.Members.{IsMembers, is_weight}
use Rattle.ballot.specs.WeightRows.{IsWeightRow}

-- what is seen of the row are the weights
pub row_seen : (ws start : List ℕ) → start ≡ ws → take (length ws) (start ++ drop (length ws) (replicate 7 0)) ≡ ws
row_seen ws start e = ap (λ s. take (length ws) (s ++ drop (length ws) (replicate 7 0))) e ∙ take-append_seam ws (drop (length ws) (replicate 7 0))

pub is_row : (ws start : List ℕ) → start ≡ ws → IsMembers ws → IsWeightRow (length ws) (start ++ drop (length ws) (replicate 7 0))
is_row ws start e h =
    let seen = row_seen ws start e in
    record {
      members = subst IsMembers (sym seen) h;
      length = ap length seen;
      rest = ap₂ (λ s r. s ++ r) (e ∙ sym seen) (drop-replicate (length ws) 7 0);
    }

-- so many ones are members where they are 1 to 7
pub ones_weigh : (n : ℕ) → list_all is_weight (replicate n 1) ≡ true
ones_weigh zero = refl
ones_weigh (suc n) = ones_weigh n

pub ones_are : (n : ℕ) → 0 < n → n ≤ 7 → IsMembers (replicate n 1)
ones_are n h k =
    let len = length-replicate n 1 in
    record { some = subst (λ l. 0 < l) (sym len) h; few = subst (λ l. l ≤ 7) (sym len) k; each = ones_weigh n }

-- what the ones give is what as many give
pub ones_of : (r : Option (List ℕ)) (n : ℕ) (ws : List ℕ) → ws ≡ replicate n 1 → SomeIff r (IsMembers ws) ws → SomeIff r ((0 < n) × (n ≤ 7)) (replicate n 1)
ones_of None n ws e h = λ k. h (subst IsMembers (sym e) (ones_are n k.0 k.1))
ones_of (Some x) n ws e h =
    let some = subst (λ l. 0 < l) (ap length e ∙ length-replicate n 1) h.0.some in
    let few = subst (λ l. l ≤ 7) (ap length e ∙ length-replicate n 1) h.0.few in
    ((some, few), h.1 ∙ e)
