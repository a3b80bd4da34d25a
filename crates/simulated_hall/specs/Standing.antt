-- That a hall stands for one object, which serves one client.
use Rattle.std.specs.Prelude.{◌≡◌, ◌≢◌, ℕ, ◌+◌, ◌<◌, ◌≤◌, List, map, length, Option, None}
use Rattle.std.specs.List.{fold}
use Rattle.object.specs.declared.command.Answer.{Answer}
use Rattle.object.specs.declared.command.Command.{Command}
use Rattle.object.specs.Legal.{IsRising, IsGivenAt}
use Rattle.object.specs.Lists.{In, IsBeginning}
use Rattle.object.specs.Objects.{Rules}
use Rattle.recorder.specs.Records.{Record}
use Rattle.hall.specs.Halls.{HallState}
use Rattle.hall.specs.Tickets.{TicketState, last_key}
use Rattle.simulated_hall.specs.OneClient.{Talk, Said}

-- a hall, the ticket of its one session, the second that it is, and how many calls were made since the last request began
pub record SimulatedState (Op Reply : Type 0) : Type 0 where
  pub hall : HallState Op Reply
  pub ticket : TicketState Op Reply
  pub second : ℕ
  pub calls : ℕ

-- the commands that were submitted, in the order in which they came
abbrev pub submitted_in : {Op Reply : Type 0} → Record Op Reply → List (Command Op)
submitted_in r = map (λ s. s.command) r.happenings.submitted

-- Numbers that were not used: each request has a lower one, and each tick is of no later second.
pub record AreUnused {Op : Type 0} (next second : ℕ) (cs : List (Command Op)) : Type 0 where
  pub requests : (c : Command Op) → In c cs → c.key.session ≡ 1 → c.key.number < next
  pub ticks : (c : Command Op) → In c cs → c.key.session ≡ 0 → c.key.number ≤ second

-- The record is that of an object which has come so far with its client: all that was submitted has taken effect, in the
-- order in which it came, and the object obeyed it.
pub record IsObeyedBy {O Op Reply : Type 0} (rules : Rules O Op Reply) (r : Record Op Reply) (t : Talk O) : Type 0 where
  pub order : r.order ≡ map (λ c. c.key) (submitted_in r)
  pub rising : IsRising (submitted_in r)
  pub object : t.object ≡ fold rules.after rules.fresh (submitted_in r)
  pub unused : AreUnused t.next t.second (submitted_in r)

-- the hall stands for that object; the ticket's next command is the next request, and the second is the talk's
pub record StandsFor {O Op Reply : Type 0} (rules : Rules O Op Reply) (s : SimulatedState Op Reply) (t : Talk O) : Type 0 where
  pub past : IsObeyedBy rules s.hall.nodes.past t
  pub session : s.ticket.session ≡ 1
  pub next : t.next ≡ length s.ticket.acts + 1
  pub second : t.second ≡ s.second

-- nothing that the commands bring answers the ticket's last command
abbrev pub IsUnanswered : {O Op Reply : Type 0} → Rules O Op Reply → SimulatedState Op Reply → Type 0
IsUnanswered {O} {Op} {Reply} rules s =
    (place : ℕ) (a : Answer Reply) → IsGivenAt rules (submitted_in s.hall.nodes.past) place a → a.to ≢ last_key s.ticket

-- and this is what was said to that command: the reply, or none yet
pub record IsSaid {O Op Reply : Type 0} (rules : Rules O Op Reply) (s : SimulatedState Op Reply) (said : Said O Reply) (reply : Option Reply) : Type 0 where
  pub stands : StandsFor rules s said.talk
  pub same : said.reply ≡ reply
  pub none : reply ≡ None → IsUnanswered rules s

-- nothing is submitted, and the order goes on
pub record SubmitsNothing {Op Reply : Type 0} (earlier later : Record Op Reply) : Type 0 where
  pub submitted : later.happenings.submitted ≡ earlier.happenings.submitted
  pub order : IsBeginning earlier.order later.order
