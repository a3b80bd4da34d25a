use Rattle.std.proofs.Common.{◌≡◌, Some, take}
use Rattle.counted_hall.specs.Accounts.{all_tickets, sessions_of}
use Rattle.counted_hall.specs.Marks.{with_marks}
use Rattle.counted_hall.proofs.comparing.mark_all.Given as goal

-- the sessions of the tickets of the lists so far are marked
abbrev pub invariant-loop-place : goal.invariant-loop-place
invariant-loop-place g l = with_marks l.fn.marks (sessions_of (all_tickets (take l.place l.tickets))) ≡ Some l.marks
