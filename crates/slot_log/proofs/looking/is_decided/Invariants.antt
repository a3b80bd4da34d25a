use Rattle.std.proofs.Common.{◌≡◌, ℕ, ◌<◌, false, Some}
use Rattle.std.specs.FinMap.{get}
use Rattle.slot_log.proofs.looking.is_decided.Given as goal

-- in no slot before this one the command is decided
abbrev pub invariant-loop-number : goal.invariant-loop-number
invariant-loop-number g l = (s : ℕ) (d : g.row.C.Denot) → s < l.number → get l.decisions s ≡ Some d → g.C.PartialEq.eq d l.command ≡ false
