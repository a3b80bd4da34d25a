-- What is handed in to a hall that forgets.
use Rattle.std.specs.Prelude.{ℕ, ◌+◌, Bool, false, if◌then◌else◌, Option, None, Some}
use Rattle.std.specs.FinMap.{get}
use Rattle.object.specs.Keys.{same_key}
use Rattle.object.specs.Objects.{Rules}
use Rattle.object.specs.OnceOnly.{is_later}
use Rattle.object.specs.declared.command.Act.{Act}
use Rattle.object.specs.declared.command.Command.{Command}
use Rattle.object.specs.declared.command.Key.{Key}
use Rattle.node.specs.declared.deed.Deed.TheVariants.{Request}
use Rattle.lean_network.specs.LeanNetworks.{LeanState, object_of, acted_lean}
use Rattle.client_table.specs.Clients.{number_of_last}
use Rattle.client_table.specs.declared.client.Client.{Client}
use Rattle.forgetting_hall.specs.Halls.{ForgettingState}

-- node n is asked for a command; one that its object would not obey is none
abbrev pub asked_lean : {O Op Reply : Type 0} → Rules O Op Reply → LeanState Op O → ℕ → Command Op → LeanState Op O
asked_lean rules k n c = if is_later c.key (object_of rules k n).latest then acted_lean rules k n (Request c) else k

-- the last command of a client, where there is one
abbrev pub last_of_client : {Op Reply : Type 0} → Option (Client Op Reply) → Option (Command Op)
last_of_client None = None
last_of_client (Some client) = client.last

-- and of a session
abbrev pub last_of : {Op O Reply : Type 0} → ForgettingState Op O Reply → ℕ → Option (Command Op)
last_of h session = last_of_client (get h.summary.clients session)

-- the reply of a client
abbrev pub reply_of_client : {Op Reply : Type 0} → Option (Client Op Reply) → Option Reply
reply_of_client None = None
reply_of_client (Some client) = client.reply

-- and to a session's last command, where it was given
abbrev pub reply_of : {Op O Reply : Type 0} → ForgettingState Op O Reply → ℕ → Option Reply
reply_of h session = reply_of_client (get h.summary.clients session)

-- the command, where there is one, has this key
abbrev pub has_key : {Op : Type 0} → Key → Option (Command Op) → Bool
has_key key None = false
has_key key (Some c) = same_key c.key key

-- the reply to the command of this key, where it is the last one of its session and was answered
abbrev pub reply_to : {Op O Reply : Type 0} → ForgettingState Op O Reply → Key → Option Reply
reply_to h key = if has_key key (last_of h key.session) then reply_of h key.session else None

-- the number of the last command, 0 where there is none
abbrev pub last_number_of : {Op O Reply : Type 0} → ForgettingState Op O Reply → ℕ → ℕ
last_number_of h session = number_of_last (last_of h session)

-- the session's next command
abbrev pub next_of : {Op O Reply : Type 0} → ForgettingState Op O Reply → ℕ → Act Op → Command Op
next_of h session act = record { key = record { session = session; number = last_number_of h session + 1 }; act = act }

-- the greatest second that the clock handed in, 0 where there is none
abbrev pub second_of : {Op O Reply : Type 0} → ForgettingState Op O Reply → ℕ
second_of h = last_number_of h 0
