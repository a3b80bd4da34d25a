-- The two kinds of tickets: one has all acts of its session, the other how many there were and the reply to the last one alone.
use Rattle.std.specs.Prelude.{◌≡◌, ℕ, ◌+◌, ◌-◌, List, length, slice_get, Option, None, Some}
use Rattle.object.specs.declared.command.Act.{Act}
use Rattle.object.specs.declared.command.Command.{Command}
use Rattle.object.specs.declared.command.Key.{Key}
use Rattle.bean_words.specs.declared.op.Op.{Op}
use Rattle.bean_words.specs.declared.reply.Reply.{Reply}
use Rattle.hall.specs.declared.ticket.NotedAct.{NotedAct}
use Rattle.hall.specs.Tickets.{TicketState, last_noted, noted_reply, with_act, with_noted}
use Rattle.conversation.specs.Keeping.{Keeping}

-- a hall's ticket has all acts
abbrev pub keeping_all : Keeping (TicketState Op Reply)
keeping_all = record {
  with_act = with_act;
  with_noted = with_noted;
  session = λ t. t.session;
  last_reply = λ t. noted_reply (last_noted t);
  IsOf = λ t acts. t.acts ≡ acts;
}

-- the session, the number of its last act, 0 where it handed in none, and the reply that is noted for that act
pub record LeanTicketState : Type 0 where
  pub session : ℕ
  pub number : ℕ
  pub reply : Option Reply

-- a session that has handed in nothing
abbrev pub new_lean_ticket : ℕ → LeanTicketState
new_lean_ticket session = record { session = session; number = 0; reply = None }

-- the key of the session's last command; its number is 0 where there is none
abbrev pub last_lean_key : LeanTicketState → Key
last_lean_key t = record { session = t.session; number = t.number }

-- the session's next command, if it is this act
abbrev pub next_lean_command : LeanTicketState → Act Op → Command Op
next_lean_command t act = record { key = record { session = t.session; number = t.number + 1 }; act = act }

-- an act more is counted, and has no reply yet
abbrev pub lean_handed_in : LeanTicketState → LeanTicketState
lean_handed_in t = record t { number = t.number + 1; reply = None }

-- and so, whichever act it is
abbrev pub lean_with_act : LeanTicketState → Act Op → LeanTicketState
lean_with_act t act = lean_handed_in t

-- a reply is noted, where there is one
abbrev pub lean_with_noted : LeanTicketState → Option Reply → LeanTicketState
lean_with_noted t None = t
lean_with_noted t (Some reply) = record t { reply = Some reply }

-- the last of these acts
abbrev pub last_of : List (NotedAct Op Reply) → Option (NotedAct Op Reply)
last_of acts = slice_get acts (length acts - 1)

-- a lean ticket has the count of the acts, and the last reply alone
abbrev pub keeping_last : Keeping LeanTicketState
keeping_last = record {
  with_act = lean_with_act;
  with_noted = lean_with_noted;
  session = λ t. t.session;
  last_reply = λ t. t.reply;
  IsOf = λ t acts. (t.number ≡ length acts) × (t.reply ≡ noted_reply (last_of acts));
}
