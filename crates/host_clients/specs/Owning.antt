-- The clients of a host, among the hosts of a cluster.
use Rattle.std.specs.Prelude.{◌≡◌, ◌≤◌, ℕ, List, Some, length, slice_get}
use Rattle.object.specs.Lists.{In}
use Rattle.object.specs.declared.command.Act.TheVariants.{Close}
use Rattle.object.specs.declared.command.Command.{Command}
use Rattle.cluster.specs.Clusters.{Hosts}
use Rattle.host_clients.specs.Clients.{ClientsState, last_number, seat_session}
use Rattle.host_clients.specs.declared.seat.Seat.{Seat}

-- what has the greatest number of all is an end
abbrev pub HasOnlyEndsLast : {Op : Type 0} → List (Command Op) → Type 0
HasOnlyEndsLast {Op} handed = (c : Command Op) → In c handed → c.key.number ≡ last_number → c.act ≡ Close

-- They are those of node n, which owns their sessions: nothing was handed in of a session that has no seat yet, and of
-- one that has, no number above its seat's. The last command of each was handed in, and its reply is an answer that was
-- given. With the greatest number of all nothing was handed in but ends.
pub record AreClientsOf {Op O Reply : Type 0} (owner : ℕ → ℕ) (s : ClientsState Op Reply) (n : ℕ)
    (k : Hosts Op O Reply) : Type 0 where
  pub owns : (place : ℕ) → owner (seat_session s.first place) ≡ n
  pub unused :
      (c : Command Op) (place : ℕ) → In c (k.handed n)
      → c.key.session ≡ seat_session s.first place → length s.seats ≤ place → ⊥
  pub numbers :
      (c : Command Op) (place : ℕ) (seat : Seat Op Reply) → In c (k.handed n)
      → c.key.session ≡ seat_session s.first place → slice_get s.seats place ≡ Some seat → c.key.number ≤ seat.number
  pub last :
      (place : ℕ) (seat : Seat Op Reply) (c : Command Op) → slice_get s.seats place ≡ Some seat
      → seat.last ≡ Some c → In c (k.handed n)
  pub replies :
      (place : ℕ) (seat : Seat Op Reply) (c : Command Op) (reply : Reply) → slice_get s.seats place ≡ Some seat
      → seat.last ≡ Some c → seat.reply ≡ Some reply
      → In (record { to = c.key; reply = reply }) k.happenings.answers
  pub ends : HasOnlyEndsLast (k.handed n)
