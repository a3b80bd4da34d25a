-- The tickets of all workers, and the hall of whose sessions they are.
use Rattle.std.specs.Prelude.{◌≡◌, ◌==◌, ℕ, true, List, length, sum, map, flat_map}
use Rattle.std.specs.Global.{Vec}
use Rattle.std.specs.List.{IsDistinct}
use Rattle.object.specs.Lists.{In}
use Rattle.hall.specs.Books.{is_opened}
use Rattle.hall.specs.Halls.{HallState, Agrees}
use Rattle.hall.specs.Tickets.{TicketState}

-- the lists of all workers, one after the other
abbrev pub all_tickets : {Op Reply : Type 0} → List (Vec (TicketState Op Reply)) → List (TicketState Op Reply)
all_tickets lists = flat_map (λ v. v.items) lists

-- of which session each is
abbrev pub sessions_of : {Op Reply : Type 0} → List (TicketState Op Reply) → List ℕ
sessions_of tickets = map (λ t. t.session) tickets

-- Each ticket agrees with the hall, and each session that was opened has one ticket.
pub record AreItsTickets {Op Reply : Type 0} (h : HallState Op Reply) (tickets : List (TicketState Op Reply)) : Type 0 where
  pub agree : (t : TicketState Op Reply) → In t tickets → Agrees h t
  pub once : IsDistinct (λ a b. a == b) (sessions_of tickets)
  pub each : (session : ℕ) → is_opened h.book session ≡ true → (t : TicketState Op Reply) × In t tickets × (t.session ≡ session)

-- how many acts all these tickets have
abbrev pub acts_in : {Op Reply : Type 0} → List (TicketState Op Reply) → ℕ
acts_in tickets = sum (map (λ t. length t.acts) tickets)
