use Rattle.std.proofs.Common.{take}
use Rattle.object.specs.Lists.{In}
use Rattle.hall.specs.Halls.{Agrees}
use Rattle.hall.specs.Tickets.{TicketState}
use Rattle.counted_hall.specs.Accounts.{all_tickets}
use Rattle.counted_hall.proofs.comparing.all_agree.Given as goal

-- the tickets of the lists so far agree
abbrev pub invariant-loop-place : goal.invariant-loop-place
invariant-loop-place g l = (t : TicketState g.row.O-Op.Denot g.row.O-Reply.Denot) → In t (all_tickets (take l.place l.tickets)) → Agrees l.hall t
