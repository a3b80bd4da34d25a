-- Numbers as options write them.
use Rattle.std.specs.Prelude.{◌≡◌, ◌≤◌, ℕ, List, Option, None, Some}
use Rattle.std.specs.Str.Parse.{IsNumeral, digits_value, without_leading_plus}

-- the text writes this number: in digits, with any zeros and perhaps a plus in front
abbrev pub Writes : List ℕ → ℕ → Type 0
Writes text n = IsNumeral 10 (without_leading_plus text) × (digits_value 10 (without_leading_plus text) ≡ n)

-- the number from least to most that the text writes, where it writes one, or the default where there is no text
abbrev pub IsNumberOr : ℕ → ℕ → ℕ → Option (List ℕ) → ℕ → Type 0
IsNumberOr default least most None n = n ≡ default
IsNumberOr default least most (Some text) n = (m : ℕ) → least ≤ m → m ≤ most → Writes text m → n ≡ m

-- the number from least to most that the text writes, where it writes one, or none where there is no text
abbrev pub IsNumberIfGiven : ℕ → ℕ → Option (List ℕ) → Option ℕ → Type 0
IsNumberIfGiven least most None n = n ≡ None
IsNumberIfGiven least most (Some text) n = (m : ℕ) → least ≤ m → m ≤ most → Writes text m → n ≡ Some m
