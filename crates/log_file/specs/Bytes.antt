-- What a writer has taken of some bytes.
use Rattle.std.specs.Prelude.{◌≡◌, ◌<◌, ◌+◌, ◌-◌, ◌^◌, ℕ, min, List, length, Option, None, Some, ⊤, Result, MatchResult, take, drop, option_map}
use Rattle.std.specs.Io.KnownBytes.{Appends, Consumes, IsAtEnd}

-- known bytes grow by all of these, or, where that failed, by some first ones
abbrev pub WritesBatch : {E : Type 0} → Option (List ℕ) → Option (List ℕ) → List ℕ → Result Unit E → Type 0
WritesBatch old new bytes result = MatchResult result (λ _. Appends old new bytes) (λ _. (n : ℕ) × Appends old new (take n bytes))

-- known bytes grow by a beginning of these, which isn't all of them
abbrev pub AppendsPart : Option (List ℕ) → Option (List ℕ) → List ℕ → Type 0
AppendsPart old new bytes = (n : ℕ) × (n < length bytes) × Appends old new (take n bytes)

-- known bytes are cut off behind n of them
abbrev pub CutsTo : Option (List ℕ) → Option (List ℕ) → ℕ → Type 0
CutsTo None new n = ⊤
CutsTo (Some xs) None n = ⊥
CutsTo (Some xs) (Some ys) n = ys ≡ take n xs

-- the known bytes behind so many first ones
abbrev pub known_from : Option (List ℕ) → ℕ → Option (List ℕ)
known_from known n = option_map (drop n) known

-- a read behind so many first bytes gives those that stand there, and none only where none do, or with no room for one
abbrev pub ReadsFrom : {E : Type 0} → Option (List ℕ) → ℕ → Result ℕ E → List ℕ → Type 0
ReadsFrom known from result piece = MatchResult result
    (λ n. Consumes (known_from known from) (known_from known (from + n)) (take n piece)
    × (n ≡ 0 → 0 < length piece → IsAtEnd (known_from known (from + n)))) (λ _. ⊤)

-- a count of bytes with these; a file has fewer than 2^64
abbrev pub grown : ℕ → List ℕ → ℕ
grown len bytes = min (len + length bytes) (2 ^ 64 - 1)
