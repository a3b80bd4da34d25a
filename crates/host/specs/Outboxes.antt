-- What a host sends while it keeps one base.
use Rattle.std.specs.Prelude.{ℕ, List, ◌++◌}
use Rattle.ballot.specs.declared.letter.Letter.{Letter}

-- the letters, in order, and the base under which they are sent
pub record Outgoing (C : Type 0) : Type 0 where
  pub base : ℕ
  pub letters : List (Letter C)

-- with these letters behind them
abbrev pub sent_on : {C : Type 0} → Outgoing C → List (Letter C) → Outgoing C
sent_on out more = record out { letters = out.letters ++ more }
