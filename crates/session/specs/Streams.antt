-- Words on streams of bytes.
use Rattle.std.specs.Prelude.{◌≡◌, ℕ, Bool, true, false, Option, List, Result, Ok, Err, OnOk, OnErr, ◌&&◌, ◌==◌, nat_lt, length, take}
use Rattle.std.specs.Io.KnownBytes.{Consumes, Appends}

-- a read with room for a byte gave none
abbrev pub finds_end : {E : Type 0} → Result ℕ E → List ℕ → Bool
finds_end (Ok n) buf = nat_lt 0 (length buf) && n == 0
finds_end (Err e) buf = false

-- known bytes lose some first ones
abbrev pub ConsumesSome : Option (List ℕ) → Option (List ℕ) → Type 0
ConsumesSome old new = (bytes : List ℕ) × Consumes old new bytes

-- known bytes grow by a beginning of the text
abbrev pub AppendsBeginning : Option (List ℕ) → Option (List ℕ) → List ℕ → Type 0
AppendsBeginning old new text = (n : ℕ) × Appends old new (take n text)

-- a call of a stream that had failed before this, or not, and has failed then: from its first failure on each call fails
pub record FailsForGood {X E : Type 0} (before after : Bool) (result : Result X E) : Type 0 where
  pub never_failed : OnOk result (before ≡ false)
  pub ok : OnOk result (after ≡ false)
  pub err : OnErr result (after ≡ true)
