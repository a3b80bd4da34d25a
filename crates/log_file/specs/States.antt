-- What stands in a log's writer, and what waits to be kept.
use Rattle.std.specs.Prelude.{◌≡◌, ℕ, Bool, false, List, []}
use Rattle.command_log.specs.declared.chain.Chain.{Chain}

-- the writer and how many bytes it should hold, the lines that it hasn't been given, how the next line is chained, and whether a
-- write or a sync has failed
pub record LogState (W : Type 0) : Type 0 where
  pub writer : W
  pub len : ℕ
  pub batch : List ℕ
  pub chain : Chain
  pub has_failed : Bool

-- nothing waits, and nothing has failed
pub record IsIdle {W : Type 0} (s : LogState W) : Type 0 where
  pub kept : s.batch ≡ []
  pub sound : s.has_failed ≡ false
