-- What is kept of a line, and what it shows of the line.
use Rattle.std.proofs.Common.{◌≡◌, ℕ, zero, suc, ◌-◌, ◌<◌, ◌≤◌, List, [], ◌∷◌, ◌++◌, length, take, refl, ap}
use Rattle.std.proofs.Common.{◌∙◌, arith}
use Rattle.std.proofs.lemmas.List.{take_all}

less : (m k : ℕ) → suc m - suc k ≡ m - k
less m k = omega arith

-- so much of a text, and what follows of it
pub take_more : (n : ℕ) (text part : List ℕ) → take n text ++ take (n - length (take n text)) part ≡ take n (text ++ part)
take_more zero text part = refl
take_more (suc n) [] part = let all : suc n - 0 ≡ suc n = omega arith in ap (λ (k : ℕ). take k part) all
take_more (suc n) (b ∷ text) part = ap (λ t. b ∷ t) (ap (λ (k : ℕ). take n text ++ take k part) (less n (length (take n text))) ∙ take_more n text part)

-- a text of which no more than n bytes are there is the whole text
pub whole_shown : (n : ℕ) (text : List ℕ) → length (take (suc n) text) ≤ n → take (suc n) text ≡ text
whole_shown n text short = take_all (suc n) text (all (suc n) text (omega arith))
  where
    all : (m : ℕ) (t : List ℕ) → length (take m t) < m → length t ≤ m
    all zero t h = absurd (omega arith)
    all (suc m) [] h = omega arith
    all (suc m) (b ∷ t) h = omega (arith, all m t (omega arith))

pub short_shown : (n : ℕ) (text : List ℕ) → length text ≤ n → take (suc n) text ≡ text
short_shown n text short = take_all (suc n) text (omega arith)
