-- Lines of sessions whose waits are over.
use Rattle.std.specs.Prelude.{◌≡◌, ℕ, Bool, true, List, IfSome}
use Rattle.session_store.specs.declared.session.SessionState.{SessionState}
use Rattle.session_store.specs.declared.late_line.LateLine.{LateLine}
use Rattle.session_store.specs.Sessions.{has_timed_out}
use Rattle.session_store.specs.Lines.{IsIn, EachStands, rank_place}

-- the session's wait is over by the second
abbrev pub is_late : ℕ → ℕ × SessionState → Bool
is_late second e = has_timed_out second e.1.wait

-- the session stands in the line at the rank of its wait, if that is over by the second
abbrev pub StandsIfLate : ℕ → LateLine → ℕ × SessionState → Type 0
StandsIfLate second line e = is_late second e ≡ true → IfSome (rank_place e.0 e.1.wait) (IsIn line.places)

-- each session whose wait is over by the second stands in the line
abbrev pub HasLate : ℕ → LateLine → List (ℕ × SessionState) → Type 0
HasLate second line sessions = EachStands (StandsIfLate second line) sessions
