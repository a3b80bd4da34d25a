-- How many loops a server has.
use Rattle.std.specs.Prelude.{◌≤◌, ℕ}

-- so many loops a server may have
pub record IsLoopCount (loops : ℕ) : Type 0 where
  pub some : 1 ≤ loops
  pub few : loops ≤ 64
