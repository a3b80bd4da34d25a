use Rattle.std.proofs.Common.{◌≡◌, Some, take}
use Rattle.counted_hall.specs.Accounts.{sessions_of}
use Rattle.counted_hall.specs.Marks.{with_marks}
use Rattle.counted_hall.proofs.comparing.mark_each.Given as goal

-- the sessions of the tickets so far are marked
abbrev pub invariant-loop-place : goal.invariant-loop-place
invariant-loop-place g l = with_marks l.fn.marks (sessions_of (take l.place l.tickets)) ≡ Some l.marks
