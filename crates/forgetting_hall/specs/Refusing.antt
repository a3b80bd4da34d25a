-- Which calls a hall that forgets refuses, and why, want of memory aside. Of several reasons the first in this order is told:
-- no such node, bad number, busy, full.
use Rattle.std.specs.Prelude.{ℕ, ◌^◌, Bool, false, not, ◌&&◌, ◌||◌, ◌==◌, nat_le, nat_lt, Option, None, Some, is_some, if◌then◌else◌}
use Rattle.std.specs.FinMap.{get}
use Rattle.object.specs.declared.command.Act.{Act}
use Rattle.object.specs.declared.command.Command.{Command}
use Rattle.object.specs.declared.command.Key.{Key}
use Rattle.ballot.specs.Members.{is_member}
use Rattle.agreement.specs.Runs.{most_events}
use Rattle.hall.specs.declared.error.HallError.{HallError}
use Rattle.hall.specs.declared.error.HallError.TheVariants.{NoSuchNode, BadNumber, Full, Busy}
use Rattle.hall.specs.Tickets.{is_close, is_tick}
use Rattle.client_table.specs.declared.client.Client.{Client}
use Rattle.forgetting_hall.specs.Halls.{ForgettingState}
use Rattle.forgetting_hall.specs.Handing.{last_of, last_number_of, second_of}

-- the node isn't a member
abbrev pub is_foreign : {Op O Reply : Type 0} → ForgettingState Op O Reply → ℕ → Bool
is_foreign h n = not (is_member h.network.members n)

-- no event more is taken
abbrev pub has_all_events : {Op O Reply : Type 0} → ForgettingState Op O Reply → Bool
has_all_events h = nat_le most_events h.taken

-- why a node's event is refused
abbrev pub refusal_of_event : {Op O Reply : Type 0} → ForgettingState Op O Reply → ℕ → Option HallError
refusal_of_event h n = if is_foreign h n then Some NoSuchNode else (if has_all_events h then Some Full else None)

-- and what is no event
abbrev pub refusal_of_node : {Op O Reply : Type 0} → ForgettingState Op O Reply → ℕ → Option HallError
refusal_of_node h n = if is_foreign h n then Some NoSuchNode else None

-- the session is there, and not the clock
abbrev pub is_session : {Op O Reply : Type 0} → ForgettingState Op O Reply → ℕ → Bool
is_session h session = not (session == 0) && is_some (get h.summary.clients session)

-- the last command leaves no room for this act: it ended the session, or has no reply yet, and this act doesn't end it
abbrev pub waits_before : {Op Reply : Type 0} → Option (Command Op) → Option Reply → Act Op → Bool
waits_before None reply act = false
waits_before (Some c) reply act = is_close c.act || (not (is_close act) && not (is_some reply))

-- and so of a client
abbrev pub keeps_waiting : {Op Reply : Type 0} → Option (Client Op Reply) → Act Op → Bool
keeps_waiting None act = false
keeps_waiting (Some client) act = waits_before client.last client.reply act

-- why a session's next command is refused
abbrev pub refusal_of_submit : {Op O Reply : Type 0} → ForgettingState Op O Reply → ℕ → Act Op → ℕ → Option HallError
refusal_of_submit h session act n =
    if is_foreign h n then Some NoSuchNode
    else (if not (not (is_tick act) && is_session h session) then Some BadNumber
    else (if keeps_waiting (get h.summary.clients session) act then Some Busy
    else (if has_all_events h then Some Full else None)))

-- why its last command is, once more
abbrev pub refusal_of_resubmit : {Op O Reply : Type 0} → ForgettingState Op O Reply → ℕ → ℕ → Option HallError
refusal_of_resubmit h session n =
    if is_foreign h n then Some NoSuchNode
    else (if not (is_session h session) then Some BadNumber
    else (if is_some (last_of h session) && has_all_events h then Some Full else None))

-- why the next second of the clock is
abbrev pub refusal_of_tick : {Op O Reply : Type 0} → ForgettingState Op O Reply → ℕ → Option HallError
refusal_of_tick h n =
    if is_foreign h n then Some NoSuchNode
    else (if nat_le (2 ^ 40) (second_of h) then Some BadNumber
    else (if has_all_events h then Some Full else None))

-- the number is greater than the last one of its session, which is there, and at most 2^61
abbrev pub is_behind_last : {Op O Reply : Type 0} → ForgettingState Op O Reply → Key → Bool
is_behind_last h key = is_some (get h.summary.clients key.session)
    && (nat_lt (last_number_of h key.session) key.number && nat_le key.number (2 ^ 61))

-- why a command is refused that has its key
abbrev pub refusal_of_keyed : {Op O Reply : Type 0} → ForgettingState Op O Reply → Key → ℕ → Option HallError
refusal_of_keyed h key n =
    if is_foreign h n then Some NoSuchNode
    else (if not (is_behind_last h key) then Some BadNumber
    else (if has_all_events h then Some Full else None))
