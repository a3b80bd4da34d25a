-- What a worker holds while it serves a client, and how an ask changes that.
use Rattle.std.specs.Prelude.{◌≡◌, ◌⊎◌, ℕ, ◌+◌, List, map, length, sum, Option, None, Some, Result, Ok, Err}
use Rattle.object.specs.declared.command.Act.{Act}
use Rattle.object.specs.declared.command.Act.TheVariants.{Do, Close}
use Rattle.session.specs.declared.faults.ServiceFault.{ServiceFault}
use Rattle.session.specs.declared.faults.ServiceFault.TheVariants.{Refused, Stopped}
use Rattle.hall.specs.Tickets.{TicketState, with_act, with_noted}

-- the ticket of the client's session, and how many commands its worker has handed in
pub record Attendance (Op Reply : Type 0) : Type 0 where
  pub ticket : TicketState Op Reply
  pub count : ℕ

-- one act more, and the reply that was noted for it, if any
abbrev pub with_one : {Op Reply : Type 0} → Attendance Op Reply → Act Op → Option Reply → Attendance Op Reply
with_one held act noted = record { ticket = with_noted (with_act held.ticket act) noted; count = held.count + 1 }

-- An operation that has a reply is handed in, and the reply noted; one that is refused changes nothing; and where the
-- worker stops, it was handed in or it wasn't.
abbrev pub Adds : {Op Reply : Type 0} → Attendance Op Reply → Op → Result Reply ServiceFault → Attendance Op Reply → Type 0
Adds old op (Ok reply) new = new ≡ with_one old (Do op) (Some reply)
Adds old op (Err Refused) new = new ≡ old
Adds {Op} {Reply} old op (Err Stopped) new = (new ≡ old) ⊎ ((noted : Option Reply) × (new ≡ with_one old (Do op) noted))

-- The client's end is handed in; where the worker stops, it wasn't. It is never refused.
abbrev pub TakesLeave : {Op Reply : Type 0} → Attendance Op Reply → Result Unit ServiceFault → Attendance Op Reply → Type 0
TakesLeave old (Ok done) new = new ≡ with_one old Close None
TakesLeave old (Err Refused) new = ⊥
TakesLeave old (Err Stopped) new = new ≡ old

-- the ticket, and so many commands
abbrev pub attendance_of : {Op Reply : Type 0} → TicketState Op Reply → ℕ → Attendance Op Reply
attendance_of ticket count = record { ticket = ticket; count = count }
