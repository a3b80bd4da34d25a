-- What it is that a table of clients, as a hall that forgets keeps it, tells of what happened.
use Rattle.std.specs.Prelude.{◌≡◌, ℕ, ◌<◌, ◌≤◌, List, length, Some, IsSome}
use Rattle.std.specs.FinMap.{get}
use Rattle.object.specs.Answers.{answered_key}
use Rattle.object.specs.Happenings.{Happenings}
use Rattle.object.specs.Legal.{WasSubmitted}
use Rattle.object.specs.Lists.{In}
use Rattle.object.specs.declared.command.Command.{Command}
use Rattle.object.specs.declared.command.Key.{Key}
use Rattle.object.specs.declared.command.Submission.{Submission}
use Rattle.recorder.specs.Firsts.{firsts}
use Rattle.agreement.specs.Reached.{HasPlaced}
use Rattle.agreement.specs.Worlds.{World}
use Rattle.client_table.specs.Clients.{Summary, number_of_last, first_reply}
use Rattle.client_table.specs.declared.client.Client.{Client}

-- of the session nothing came after this command, which is its own; and it has this reply
pub record IsClientOf {Op Reply : Type 0} (h : Happenings Op Reply) (session : ℕ) (client : Client Op Reply) : Type 0 where
  pub last : (s : Submission Op) → In s h.submitted → s.command.key.session ≡ session → s.command.key.number ≤ number_of_last client.last
  pub own : (c : Command Op) → client.last ≡ Some c → (c.key.session ≡ session) × WasSubmitted c h.submitted
  pub reply : client.reply ≡ first_reply h.answers client.last

-- the clients are as what happened has them, and so many commands were submitted and answered
pub record IsSummaryOf {Op Reply : Type 0} (s : Summary Op Reply) (h : Happenings Op Reply) : Type 0 where
  pub clients : (session : ℕ) (client : Client Op Reply) → get s.clients session ≡ Some client → IsClientOf h session client
  pub submitted : s.submitted ≡ length h.submitted
  pub answered : s.answered ≡ length (firsts answered_key h.answers)

-- so many commands took effect
abbrev pub CountsPlaced : {Op Reply : Type 0} → ℕ → World Op Reply → Type 0
CountsPlaced count w = (keys : List Key) × HasPlaced w keys × (count ≡ length keys)

-- no session is there that wasn't opened
abbrev pub IsOpenedUpTo : {Op Reply : Type 0} → ℕ → Summary Op Reply → Type 0
IsOpenedUpTo count s = (session : ℕ) → IsSome (get s.clients session) → session ≤ count

-- the command comes behind the last one of a session that is there
pub record IsNextOf {Op Reply : Type 0} (s : Summary Op Reply) (c : Command Op) : Type 0 where
  pub client : Client Op Reply
  pub is_there : get s.clients c.key.session ≡ Some client
  pub number : number_of_last client.last < c.key.number

-- the command is the last one of a session that is there
pub record IsLastOf {Op Reply : Type 0} (s : Summary Op Reply) (c : Command Op) : Type 0 where
  pub client : Client Op Reply
  pub is_there : get s.clients c.key.session ≡ Some client
  pub last : client.last ≡ Some c
