use Rattle.std.proofs.Common.{◌≡◌, ◌+◌}
use Rattle.chronicle.specs.Walks.{HasWalked}
use Rattle.chronicle.proofs.walk.check_happenings.Given as goal

-- so many lines were looked through, and are right
abbrev pub invariant-loop-line : goal.invariant-loop-line
invariant-loop-line l = record {
  walked : HasWalked l.chronicle l.walk;
  count : l.walk.submitted + l.walk.answered ≡ l.line;
}
