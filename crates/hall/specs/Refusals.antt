-- Which calls a hall refuses, and why, want of memory aside. Of several reasons the first in this order is told: no such
-- node, bad number, busy, full.
use Rattle.std.specs.Prelude.{◌≡◌, ℕ, ◌^◌, Bool, true, false, not, ◌&&◌, ◌||◌, ◌==◌, nat_le, Option, None, Some, is_some, if◌then◌else◌}
use Rattle.std.specs.Prelude.{Result, Err, IsOk, IfErr, OnOk, OnErr}
use Rattle.object.specs.declared.command.Act.{Act}
use Rattle.object.specs.declared.command.Key.{Key}
use Rattle.object.specs.declared.command.Submission.{Submission}
use Rattle.object.specs.Commands.{same_acts}
use Rattle.object.specs.Happenings.{submitted_key}
use Rattle.object.specs.Keys.{found}
use Rattle.ballot.specs.Members.{is_member}
use Rattle.agreement.specs.Runs.{most_events}
use Rattle.hall.specs.declared.error.HallError.{HallError}
use Rattle.hall.specs.declared.error.HallError.TheVariants.{OutOfMemory, NoSuchNode, BadNumber, Full, Busy}
use Rattle.hall.specs.declared.ticket.NotedAct.{NotedAct}
use Rattle.hall.specs.Tickets.{TicketState, last_key, last_noted, is_close, is_tick}
use Rattle.hall.specs.Books.{is_opened, last_number}
use Rattle.hall.specs.Halls.{HallState, reply_to}

-- the node isn't a member
abbrev pub is_stranger : {Op Reply : Type 0} → HallState Op Reply → ℕ → Bool
is_stranger h n = not (is_member h.nodes.network.members n)

-- no event more is taken
abbrev pub is_full : {Op Reply : Type 0} → HallState Op Reply → Bool
is_full h = nat_le most_events h.nodes.taken

-- the submission has this act
abbrev pub has_act : {Op : Type 0} → (Op → Op → Bool) → Act Op → Option (Submission Op) → Bool
has_act same act None = false
has_act same act (Some s) = same_acts same s.command.act act

-- the ticket's last act, where there is one, was submitted under its key
abbrev pub is_submitted_as : {Op Reply : Type 0} → (Op → Op → Bool) → HallState Op Reply → TicketState Op Reply → Option (NotedAct Op Reply) → Bool
is_submitted_as same h t None = true
is_submitted_as same h t (Some a) = has_act same a.act (found submitted_key (last_key t) h.nodes.past.happenings.submitted)

-- the key is that of the last command of a session that was opened here, of number 0 where it has none
abbrev pub is_last : {Op Reply : Type 0} → HallState Op Reply → Key → Bool
is_last h key = is_opened h.book key.session && (key.number == last_number h.book key.session)

-- the ticket's session was opened here, and its last command is the last one of that session
abbrev pub is_own : {Op Reply : Type 0} → (Op → Op → Bool) → HallState Op Reply → TicketState Op Reply → Bool
is_own same h t = is_last h (last_key t) && is_submitted_as same h t (last_noted t)

-- the last act leaves no room for this one: it ended the session, or has no reply yet, and this one doesn't end it
abbrev pub keeps_busy : {Op Reply : Type 0} → HallState Op Reply → TicketState Op Reply → Act Op → Option (NotedAct Op Reply) → Bool
keeps_busy h t act None = false
keeps_busy h t act (Some a) = is_close a.act || (not (is_close act) && not (is_some (reply_to h (last_key t))))

-- why a new command of a ticket is refused
abbrev pub submit_refusal : {Op Reply : Type 0} → (Op → Op → Bool) → HallState Op Reply → TicketState Op Reply → Act Op → ℕ → Option HallError
submit_refusal same h t act n =
    if is_stranger h n then Some NoSuchNode
    else (if not (not (is_tick act) && is_own same h t) then Some BadNumber
    else (if keeps_busy h t act (last_noted t) then Some Busy
    else (if is_full h then Some Full else None)))

-- why its last command is, once more
abbrev pub resubmit_refusal : {Op Reply : Type 0} → (Op → Op → Bool) → HallState Op Reply → TicketState Op Reply → ℕ → Option HallError
resubmit_refusal same h t n =
    if is_stranger h n then Some NoSuchNode
    else (if not (is_own same h t) then Some BadNumber
    else (if is_some (last_noted t) && is_full h then Some Full else None))

-- a second is 1 to 2^40
abbrev pub is_second : ℕ → Bool
is_second second = nat_le 1 second && nat_le second (2 ^ 40)

-- why a second of the clock is
abbrev pub tick_refusal : {Op Reply : Type 0} → HallState Op Reply → ℕ → ℕ → Option HallError
tick_refusal h second n =
    if is_stranger h n then Some NoSuchNode
    else (if not (is_second second) then Some BadNumber
    else (if is_full h then Some Full else None))

-- why an event at a node is
abbrev pub event_refusal : {Op Reply : Type 0} → HallState Op Reply → ℕ → Option HallError
event_refusal h n = if is_stranger h n then Some NoSuchNode else (if is_full h then Some Full else None)

-- and what is no event
abbrev pub node_refusal : {Op Reply : Type 0} → HallState Op Reply → ℕ → Option HallError
node_refusal h n = if is_stranger h n then Some NoSuchNode else None

-- A call is refused for this reason where there is one, and else for want of memory alone. Refused, it changes nothing.
pub record Refuses {T S : Type 0} (reason : Option HallError) (result : Result T HallError) (old new : S) : Type 0 where
  pub refused : (r : HallError) → reason ≡ Some r → result ≡ Err r
  pub memory : reason ≡ None → IfErr result (λ r. r ≡ OutOfMemory)
  pub err : OnErr result (new ≡ old)

-- The same of a call that may find nothing to do. Then it does nothing, and isn't refused memory.
pub record RefusesOrIdles {T S : Type 0} (reason : Option HallError) (nothing : Type 0) (result : Result T HallError) (old new : S) : Type 0 where
  pub refused : Refuses reason result old new
  pub none : OnOk result (nothing → new ≡ old)
  pub idle : reason ≡ None → nothing → IsOk result
