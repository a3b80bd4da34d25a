-- The numbers of a request: decimal digits, with leading zeros allowed and no sign.
use Rattle.std.specs.Prelude.{ℕ, ◌^◌, ◌&&◌, nat_lt, List, Option, Some, None, if◌then◌else◌}
use Rattle.std.specs.Option.{option_and_then}
use Rattle.std.specs.Str.{all_ascii_digits}
use Rattle.std.specs.Str.Parse.{digits_value}
use Rattle.bean_codec.specs.Words.{is_word}

infixl 10 ◌>>=◌
-- what comes next, from the value that was read, if there is one
abbrev pub ◌>>=◌ : {A B : Type 0} → Option A → (A → Option B) → Option B
read >>= next = option_and_then next read

-- the number that one or more digits write, where no other byte stands among them
abbrev pub written_number : List ℕ → Option ℕ
written_number word = if is_word word && all_ascii_digits word then Some (digits_value 10 word) else None

-- the number, where it is below the limit
unfoldable pub number_below : ℕ → List ℕ → Option ℕ
number_below limit word = do
  n ← written_number word
  if nat_lt n limit then Some n else None

-- a number of 32 bits
abbrev pub u32_of : List ℕ → Option ℕ
u32_of word = number_below (2 ^ 32) word

-- a number of 64 bits
abbrev pub u64_of : List ℕ → Option ℕ
u64_of word = number_below (2 ^ 64) word
