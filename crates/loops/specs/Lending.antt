-- Sessions that are used again, one client after the other: which one the next client gets, and its ticket of it.
use Rattle.std.specs.Prelude.{◌≡◌, ℕ, ◌+◌, ◌-◌, ◌==◌, Bool, true, false, if◌then◌else◌, List, length, slice_get, Any, Option, None, Some}
use Rattle.object.specs.declared.command.Act.{Act}
use Rattle.object.specs.declared.command.Command.{Command}
use Rattle.object.specs.declared.command.Key.{Key}
use Rattle.bean_words.specs.declared.op.Op.{Op}
use Rattle.bean_words.specs.declared.reply.Reply.{Reply}
use Rattle.hall.specs.Tickets.{is_close}
use Rattle.conversation.specs.Keeping.{Keeping}
use Rattle.conversation.specs.Tickets.{LeanTicketState, keeping_last, new_lean_ticket, lean_handed_in}
use Rattle.forgetting_hall.specs.Halls.{ForgettingState}
use Rattle.forgetting_hall.specs.Handing.{last_number_of, last_of, reply_to}

-- what a client handed in under the session, and the number of the session's last command before that, 0 where it is new
pub record LentState : Type 0 where
  pub first : ℕ
  pub ticket : LeanTicketState

-- the key of the session's last command; where it is new and has none, the number is 0
abbrev pub last_lent_key : LentState → Key
last_lent_key t = record { session = t.ticket.session; number = t.first + t.ticket.number }

-- the act, as the command that comes next behind the key
abbrev pub command_behind : {Op : Type 0} → Key → Act Op → Command Op
command_behind key act = record { key = record { session = key.session; number = key.number + 1 }; act = act }

-- who gets the session behind this key, its last one, has handed in nothing
abbrev pub lent_behind : Key → LentState
lent_behind key = record { first = key.number; ticket = new_lean_ticket key.session }

-- an act more is handed in
abbrev pub lent_handed_in : LentState → LentState
lent_handed_in t = record t { ticket = lean_handed_in t.ticket }

-- it keeps what was handed in as a lean ticket does
abbrev pub keeping_lent : Keeping LentState
keeping_lent = record {
  with_act = λ t act. record t { ticket = keeping_last.with_act t.ticket act };
  with_noted = λ t reply. record t { ticket = keeping_last.with_noted t.ticket reply };
  session = λ t. keeping_last.session t.ticket;
  last_reply = λ t. keeping_last.last_reply t.ticket;
  IsOf = λ t acts. keeping_last.IsOf t.ticket acts;
}

-- the reply to the ticket's last act, where it has one: never to what its session did before
abbrev pub reply_since : {O : Type 0} → ForgettingState Op O Reply → LentState → Option Reply
reply_since h t = if t.ticket.number == 0 then None else reply_to h (last_lent_key t)

-- the command, where there is one, ends its session
abbrev pub ends_session : {Op : Type 0} → Option (Command Op) → Bool
ends_session None = false
ends_session (Some c) = is_close c.act

-- the session's end was handed in, and nothing behind it
abbrev pub has_ended : {Op O Reply : Type 0} → ForgettingState Op O Reply → ℕ → Bool
has_ended h session = ends_session (last_of h session)

-- one of these commands has the key, and ends its session
abbrev pub IsEndAmong : {Op : Type 0} → List (Command Op) → Key → Type 0
IsEndAmong commands key = Any (λ c. (c.key ≡ key) × (is_close c.act ≡ true)) commands

-- the key, where there is one and it is that of its session's last command
abbrev pub still_last : {Op O Reply : Type 0} → ForgettingState Op O Reply → Option Key → Option Key
still_last h None = None
still_last h (Some key) = if last_number_of h key.session == key.number then Some key else None

-- the end of the session that is used again next, where one is free: the last of these, if nothing came behind it
abbrev pub next_free : {Op O Reply : Type 0} → ForgettingState Op O Reply → List Key → Option Key
next_free h free = still_last h (slice_get free (length free - 1))

-- its session
abbrev pub session_at : Option Key → Option ℕ
session_at None = None
session_at (Some key) = Some key.session

-- behind which key the next client's session begins: behind that end, or with number 1 of the next session
abbrev pub behind_which : Option Key → ℕ → Key
behind_which None opened = record { session = opened + 1; number = 0 }
behind_which (Some key) opened = key
