-- A hall: recorded nodes, and a book of the sessions that use them.
use Rattle.std.specs.Prelude.{◌≡◌, ℕ, ◌+◌, nat_lt, max, Bool, true, false, List, [], map, length, slice_get, Option}
use Rattle.std.specs.Prelude.{None, Some, option_map, is_some, if◌then◌else◌}
use Rattle.object.specs.declared.command.Act.TheVariants.{Tick}
use Rattle.object.specs.declared.command.Command.{Command}
use Rattle.object.specs.declared.command.Key.{Key}
use Rattle.object.specs.Keys.{found}
use Rattle.object.specs.Answers.{answered_key}
use Rattle.object.specs.Happenings.{submitted_key}
use Rattle.object.specs.Objects.{Rules}
use Rattle.recorder.specs.Chronicles.{Chronicle}
use Rattle.node.specs.declared.deed.Outcome.{Outcome}
use Rattle.node.specs.declared.deed.Outcome.TheVariants.{Idle, Done, Performed}
use Rattle.hall.specs.declared.ticket.NotedAct.{NotedAct}
use Rattle.hall.specs.Recorded.{RecordedState, untouched, asked}
use Rattle.hall.specs.Shows.{IsShown}
use Rattle.hall.specs.Tickets.{TicketState, last_key, last_noted, noted_reply}
use Rattle.hall.specs.Books.{IsBooked, is_opened, with_number, last_second, submissions_of}

-- the nodes with what happened there, the number of each session's last command, and the greatest second so far
pub record HallState (Op Reply : Type 0) : Type 0 where
  pub nodes : RecordedState Op Reply
  pub book : List ℕ
  pub second : ℕ

-- The nodes show a world that events lead to; and the book and the second are those of what
-- was submitted.
pub record IsHall {O Op Reply : Type 0} (rules : Rules O Op Reply) (h : HallState Op Reply) : Type 0 where
  pub shown : IsShown rules h.nodes
  pub booked : IsBooked h.book h.nodes.past.happenings.submitted h.nodes.taken
  pub clock : h.second ≡ last_second h.nodes.past.happenings.submitted

-- how many sessions a hall opens
abbrev pub most_sessions : ℕ
most_sessions = 4294967295

-- the hall, whose nodes have become these
abbrev pub with_nodes : {Op Reply : Type 0} → HallState Op Reply → RecordedState Op Reply → HallState Op Reply
with_nodes h nodes = record h { nodes = nodes }

-- these members, before anything happened
abbrev pub new_hall : {Op Reply : Type 0} → List ℕ → HallState Op Reply
new_hall members = record { nodes = untouched members; book = []; second = 0 }

-- a session's next command was handed in at node n
abbrev pub after_submit : {O Op Reply : Type 0} → Rules O Op Reply → HallState Op Reply → ℕ → Command Op → HallState Op Reply
after_submit rules h n c = record { nodes = asked rules h.nodes n c; book = with_number h.book c.key.session c.key.number; second = h.second }

-- the command of a second
abbrev pub tick_of : {Op : Type 0} → ℕ → Command Op
tick_of second = record { key = record { session = 0; number = second }; act = Tick }

-- the clock showed a second at node n
abbrev pub after_tick : {O Op Reply : Type 0} → Rules O Op Reply → HallState Op Reply → ℕ → ℕ → HallState Op Reply
after_tick rules h n second = record { nodes = asked rules h.nodes n (tick_of second); book = h.book; second = max h.second second }

-- something came of a deed
abbrev pub has_done : Outcome → Bool
has_done Idle = false
has_done Done = true
has_done (Performed p) = true

-- something was submitted that hasn't taken effect
abbrev pub has_unplaced : {Op Reply : Type 0} → HallState Op Reply → Bool
has_unplaced h = nat_lt (length h.nodes.past.order) (length h.nodes.past.happenings.submitted)

-- the reply that was given first to the key
abbrev pub reply_to : {Op Reply : Type 0} → HallState Op Reply → Key → Option Reply
reply_to h key = option_map (λ a. a.reply) (found answered_key key h.nodes.past.happenings.answers)

-- the reply that is there to be noted: that to the last command, unless one is noted
abbrev pub to_note : {Op Reply : Type 0} → HallState Op Reply → TicketState Op Reply → Option Reply
to_note h t = if is_some (noted_reply (last_noted t)) then None else reply_to h (last_key t)

-- the chronicle of a hall
abbrev pub chronicle_of : {Op Reply : Type 0} → HallState Op Reply → Chronicle Op Reply
chronicle_of h = record {
  members = h.nodes.network.members;
  submitted = h.nodes.past.happenings.submitted;
  answers = h.nodes.past.happenings.answers;
  order = h.nodes.past.order;
}

-- the noted act was submitted under the key, and its reply, where one is noted, is the one that was given first
pub record IsBorneOut {Op Reply : Type 0} (h : HallState Op Reply) (key : Key) (a : NotedAct Op Reply) : Type 0 where
  pub act : option_map (λ s. s.command.act) (found submitted_key key h.nodes.past.happenings.submitted) ≡ Some a.act
  pub reply : (reply : Reply) → a.reply ≡ Some reply → reply_to h key ≡ Some reply

-- and so are these acts of a session, from the first on
abbrev pub AreBorneOut : {Op Reply : Type 0} → HallState Op Reply → ℕ → List (NotedAct Op Reply) → Type 0
AreBorneOut {Op} {Reply} h session acts =
    (i : ℕ) (a : NotedAct Op Reply) → slice_get acts i ≡ Some a → IsBorneOut h (record { session = session; number = i + 1 }) a

-- The ticket's session was opened; its acts are all that were submitted of that session, in order; and each reply in it is
-- the one that was given first.
pub record Agrees {Op Reply : Type 0} (h : HallState Op Reply) (t : TicketState Op Reply) : Type 0 where
  pub opened : is_opened h.book t.session ≡ true
  pub acts : map (λ a. a.act) t.acts ≡ map (λ s. s.command.act) (submissions_of t.session h.nodes.past.happenings.submitted)
  pub replies :
      (i : ℕ) (a : NotedAct Op Reply) (reply : Reply) → slice_get t.acts i ≡ Some a → a.reply ≡ Some reply
      → reply_to h (record { session = t.session; number = i + 1 }) ≡ Some reply
