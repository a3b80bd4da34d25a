-- What is kept of what happened: of each session its last command with the reply to it (the client table of Viewstamped
-- Replication Revisited, 4.1), and how much else there was.
use Rattle.std.specs.Prelude.{◌≡◌, ℕ, ◌+◌, List, length, Option, None, Some, option_map}
use Rattle.std.specs.FinMap.{empty, get, insert}
use Rattle.std.specs.Option.{option_or}
use Rattle.object.specs.Answers.{answered_key}
use Rattle.object.specs.Keys.{found}
use Rattle.object.specs.declared.command.Answer.{Answer}
use Rattle.object.specs.declared.command.Command.{Command}
use Rattle.object.specs.declared.command.Key.{Key}
use Rattle.ballot.specs.Slots.{Slots, each_value}
use Rattle.client_table.specs.declared.client.Client.{Client}

-- a session that has handed in nothing
abbrev pub new_client : {Op Reply : Type 0} → Client Op Reply
new_client = record { last = None; reply = None }

-- a session whose last command is this one, which has no reply
abbrev pub client_of : {Op Reply : Type 0} → Command Op → Client Op Reply
client_of c = record { last = Some c; reply = None }

-- the key is that of the client's last command
abbrev pub IsLast : {Op Reply : Type 0} → Client Op Reply → Key → Type 0
IsLast client key = option_map (λ c. c.key) client.last ≡ Some key

-- the number of the last command, 0 where there is none
abbrev pub number_of_last : {Op : Type 0} → Option (Command Op) → ℕ
number_of_last None = 0
number_of_last (Some c) = c.key.number

-- the reply that was given first to the command
abbrev pub first_reply : {Op Reply : Type 0} → List (Answer Reply) → Option (Command Op) → Option Reply
first_reply answers None = None
first_reply answers (Some c) = option_map (λ a. a.reply) (found answered_key c.key answers)

-- The clients by their sessions, the clock as session 0; and how many commands were submitted, were answered and took effect.
pub record Summary (Op Reply : Type 0) : Type 0 where
  pub clients : Slots (Client Op Reply)
  pub submitted : ℕ
  pub answered : ℕ
  pub placed : ℕ

-- nothing happened, and only the clock is there
abbrev pub blank_summary : {Op Reply : Type 0} → Summary Op Reply
blank_summary = record { clients = insert empty 0 new_client; submitted = 0; answered = 0; placed = 0 }

-- each client's last command is of its session
abbrev pub HasOwnCommands : {Op Reply : Type 0} → Slots (Client Op Reply) → Type 0
HasOwnCommands {Op} {Reply} clients =
    (session : ℕ) (client : Client Op Reply) (c : Command Op) → get clients session ≡ Some client
    → client.last ≡ Some c → c.key.session ≡ session

-- a session's next command is submitted
abbrev pub with_command : {Op Reply : Type 0} → Command Op → Summary Op Reply → Summary Op Reply
with_command c s = record s {
  clients = insert s.clients c.key.session (client_of c);
  submitted = s.submitted + 1;
}

-- what the client is told by these answers: the reply to its last command, unless it has one
abbrev pub replied : {Op Reply : Type 0} → List (Answer Reply) → Client Op Reply → Client Op Reply
replied given client = record client { reply = option_or client.reply (first_reply given client.last) }

-- each client is told these answers
abbrev pub told : {Op Reply : Type 0} → List (Answer Reply) → Summary Op Reply → Summary Op Reply
told given s = record s { clients = each_value (λ session client. replied given client) s.clients }

-- these answers are given, to keys that had none
abbrev pub with_replies : {Op Reply : Type 0} → List (Answer Reply) → Summary Op Reply → Summary Op Reply
with_replies given s = record (told given s) { answered = s.answered + length given }

-- a command takes effect, where there is one
abbrev pub with_effect : {Op Reply : Type 0} → Option Key → Summary Op Reply → Summary Op Reply
with_effect None s = s
with_effect (Some key) s = record s { placed = s.placed + 1 }
