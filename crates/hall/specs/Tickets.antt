-- Tickets: what a session handed in, and which replies were noted for it.
use Rattle.std.specs.Prelude.{ℕ, ◌+◌, ◌-◌, Bool, true, false, List, [], ◌∷◌, ◌++◌, length, take, slice_get, Option, None, Some}
use Rattle.object.specs.declared.command.Act.{Act}
use Rattle.object.specs.declared.command.Act.TheVariants.{Do, Close, Tick}
use Rattle.object.specs.declared.command.Command.{Command}
use Rattle.object.specs.declared.command.Key.{Key}
use Rattle.hall.specs.declared.ticket.NotedAct.{NotedAct}

-- the session, and its acts in their order, numbered from 1
pub record TicketState (Op Reply : Type 0) : Type 0 where
  pub session : ℕ
  pub acts : List (NotedAct Op Reply)

-- a session that has handed in nothing
abbrev pub new_ticket : {Op Reply : Type 0} → ℕ → TicketState Op Reply
new_ticket session = record { session = session; acts = [] }

-- the key of the session's last command; its number is 0 where there is none
abbrev pub last_key : {Op Reply : Type 0} → TicketState Op Reply → Key
last_key t = record { session = t.session; number = length t.acts }

-- and of its next one
abbrev pub next_key : {Op Reply : Type 0} → TicketState Op Reply → Key
next_key t = record { session = t.session; number = length t.acts + 1 }

-- an act under the last key
abbrev pub last_command : {Op Reply : Type 0} → TicketState Op Reply → Act Op → Command Op
last_command t act = record { key = last_key t; act = act }

-- and under the next one
abbrev pub next_command : {Op Reply : Type 0} → TicketState Op Reply → Act Op → Command Op
next_command t act = record { key = next_key t; act = act }

-- the last act
abbrev pub last_noted : {Op Reply : Type 0} → TicketState Op Reply → Option (NotedAct Op Reply)
last_noted t = slice_get t.acts (length t.acts - 1)

-- one act more
abbrev pub with_act : {Op Reply : Type 0} → TicketState Op Reply → Act Op → TicketState Op Reply
with_act t act = record t { acts = t.acts ++ (record { act = act; reply = None } ∷ []) }

-- one act less
abbrev pub without_last : {Op Reply : Type 0} → TicketState Op Reply → TicketState Op Reply
without_last t = record t { acts = take (length t.acts - 1) t.acts }

-- the reply that is noted for the last act
abbrev pub noted_reply : {Op Reply : Type 0} → Option (NotedAct Op Reply) → Option Reply
noted_reply None = None
noted_reply (Some noted) = noted.reply

-- the reply is noted for the last act, where there is one
abbrev pub with_last_reply : {Op Reply : Type 0} → List (NotedAct Op Reply) → Reply → List (NotedAct Op Reply)
with_last_reply [] reply = []
with_last_reply (a ∷ []) reply = record a { reply = Some reply } ∷ []
with_last_reply (a ∷ b ∷ more) reply = a ∷ with_last_reply (b ∷ more) reply

-- and so the ticket, where there is a reply to note
abbrev pub with_noted : {Op Reply : Type 0} → TicketState Op Reply → Option Reply → TicketState Op Reply
with_noted t None = t
with_noted t (Some reply) = record t { acts = with_last_reply t.acts reply }

-- the act ends the session
abbrev pub is_close : {Op : Type 0} → Act Op → Bool
is_close (Do op) = false
is_close Close = true
is_close Tick = false

-- the act is the clock's
abbrev pub is_tick : {Op : Type 0} → Act Op → Bool
is_tick (Do op) = false
is_tick Close = false
is_tick Tick = true
