-- The pauses between tries, in milliseconds.
use Rattle.std.specs.Prelude.{ℕ, ◌≤◌}
use Rattle.backoff.specs.declared.TheConstants.{LONGEST_PAUSE}

-- how long is waited at first, and the next time
pub record Pauses : Type 0 where
  pub first : ℕ
  pub next : ℕ

-- the next pause is no shorter than the first, and no longer than the longest
pub record ArePauses (pauses : Pauses) : Type 0 where
  pub least : pauses.first ≤ pauses.next
  pub most : pauses.next ≤ LONGEST_PAUSE
