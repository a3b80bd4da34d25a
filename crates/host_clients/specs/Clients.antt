-- The clients of one host (the client table of Viewstamped Replication Revisited, 4.1).
use Rattle.std.specs.Prelude.{◌≡◌, ◌<◌, ◌+◌, ◌*◌, ◌^◌, ◌++◌, ℕ, suc, true, false, List, [], ◌∷◌, Option, None, Some, length, option_map}
use Rattle.std.specs.Prelude.{slice_get, slice_set, if◌then◌else◌}
use Rattle.object.specs.Keys.{same_key}
use Rattle.object.specs.declared.command.Act.{Act}
use Rattle.object.specs.declared.command.Act.TheVariants.{Close}
use Rattle.object.specs.declared.command.Answer.{Answer}
use Rattle.object.specs.declared.command.Command.{Command}
use Rattle.object.specs.declared.command.Key.{Key}
use Rattle.host_clients.specs.declared.seat.Seat.{Seat}

-- The sessions are numbered from the first on, in steps of 8, and each has a seat; numbers below a limit may be used.
-- The seats that are free are of sessions that have ended.
pub record ClientsState (Op Reply : Type 0) : Type 0 where
  pub first : ℕ
  pub seats : List (Seat Op Reply)
  pub limit : ℕ
  pub free : List ℕ

-- nobody is there, and no number may be used
abbrev pub no_clients : {Op Reply : Type 0} → ℕ → ClientsState Op Reply
no_clients first = record { first = first; seats = []; limit = 0; free = [] }

-- the session of a seat
abbrev pub seat_session : ℕ → ℕ → ℕ
seat_session first place = first + 8 * place

-- the session has the seat at this place
pub record HasSeat {Op Reply : Type 0} (s : ClientsState Op Reply) (session place : ℕ) : Type 0 where
  pub number : session ≡ seat_session s.first place
  pub within : place < length s.seats

-- the seat of a session that has handed in nothing since it was opened; its last command before had this number
abbrev pub opened_seat : {Op Reply : Type 0} → ℕ → Seat Op Reply
opened_seat number = record { number = number; is_open = true; last = None; reply = None }

-- and of one that has ended
abbrev pub closed_seat : {Op Reply : Type 0} → ℕ → Seat Op Reply
closed_seat number = record { number = number; is_open = false; last = None; reply = None }

-- A session opens: that of the seat which became free last, and where none is, the next one, if that may be used.
pub data OpensAs {Op Reply : Type 0} (s : ClientsState Op Reply) : ℕ → ClientsState Op Reply → Type 0 where
  again :
      (place : ℕ) (free : List ℕ) (seat : Seat Op Reply)
      → s.free ≡ free ++ (place ∷ [])
      → slice_get s.seats place ≡ Some seat
      → OpensAs s (seat_session s.first place)
      (record s { seats = slice_set s.seats place (opened_seat seat.number); free = free })
  next :
      s.free ≡ []
      → seat_session s.first (length s.seats) < s.limit
      → OpensAs s (seat_session s.first (length s.seats)) (record s { seats = s.seats ++ (opened_seat 0 ∷ []) })

-- the session's seat with this command as its last one
abbrev pub with_last_command : {Op Reply : Type 0} → ℕ → Command Op → ClientsState Op Reply → ClientsState Op Reply
with_last_command place c s =
    record s { seats = slice_set s.seats place (record { number = c.key.number; is_open = true; last = Some c; reply = None }) }

-- the greatest number of a command, with which a later process ends the sessions of this one, and nobody asks for
-- anything else
abbrev pub last_number : ℕ
last_number = 2 ^ 62

-- a client has the session
pub record IsOpen {Op Reply : Type 0} (s : ClientsState Op Reply) (session : ℕ) : Type 0 where
  pub place : ℕ
  pub has : HasSeat s session place
  pub seat : Seat Op Reply
  pub was : slice_get s.seats place ≡ Some seat
  pub still : seat.is_open ≡ true

-- a command of the session at this place is handed in: the next one, which asks for this
pub record HandsInNext {Op Reply : Type 0} (s : ClientsState Op Reply) (session : ℕ) (act : Act Op) (c : Command Op)
    (z : ClientsState Op Reply) : Type 0 where
  pub place : ℕ
  pub has : HasSeat s session place
  pub seat : Seat Op Reply
  pub was : slice_get s.seats place ≡ Some seat
  pub still : seat.is_open ≡ true
  pub key : c.key ≡ record { session = session; number = seat.number + 1 }
  pub below : c.key.number < last_number
  pub asks : c.act ≡ act
  pub becomes : z ≡ with_last_command place c s

-- the session is one of an earlier process, from which steps of 8 lead up to the first one of this
pub record IsEarlier {Op Reply : Type 0} (s : ClientsState Op Reply) (session : ℕ) : Type 0 where
  pub steps : ℕ
  pub below : seat_session session (suc steps) ≡ s.first
  pub client : 0 < session

-- the command ends it
pub record EndsEarlier {Op Reply : Type 0} (s : ClientsState Op Reply) (session : ℕ) (c : Command Op) : Type 0 where
  pub earlier : IsEarlier s session
  pub key : c.key ≡ record { session = session; number = last_number }
  pub end : c.act ≡ Close

-- the key is that of the last command
abbrev pub IsLastOfSeat : {Op Reply : Type 0} → Seat Op Reply → Key → Type 0
IsLastOfSeat seat key = option_map (λ c. c.key) seat.last ≡ Some key

-- the reply, where the answer is to this command
abbrev pub reply_if : {Op Reply : Type 0} → Option (Command Op) → Answer Reply → Option Reply
reply_if None answer = None
reply_if (Some c) answer = if same_key c.key answer.to then Some answer.reply else None

abbrev pub first_of : {X : Type 0} → Option X → Option X → Option X
first_of None o = o
first_of (Some x) o = Some x

-- a seat hears an answer: it takes the first one to its last command
abbrev pub heard : {Op Reply : Type 0} → Answer Reply → Seat Op Reply → Seat Op Reply
heard answer seat = record seat { reply = first_of seat.reply (reply_if seat.last answer) }

-- the session of the answer hears it, if it has a seat
pub data HearsAnswer {Op Reply : Type 0} (answer : Answer Reply) (s : ClientsState Op Reply) : ClientsState Op Reply → Type 0 where
  there :
      (place : ℕ) (seat : Seat Op Reply)
      → HasSeat s answer.to.session place
      → slice_get s.seats place ≡ Some seat
      → HearsAnswer answer s (record s { seats = slice_set s.seats place (heard answer seat) })
  nowhere :
      ((place : ℕ) → HasSeat s answer.to.session place → ⊥)
      → HearsAnswer answer s s

-- the last command has this key, and is the session's end
pub record IsEndOf {Op Reply : Type 0} (seat : Seat Op Reply) (asked : Key) : Type 0 where
  pub command : Command Op
  pub last : seat.last ≡ Some command
  pub key : command.key ≡ asked
  pub act : command.act ≡ Close

-- the session at this place has ended with the command of this key
pub record EndsAtPlace {Op Reply : Type 0} (s : ClientsState Op Reply) (place : ℕ) (key : Key) : Type 0 where
  pub has : HasSeat s key.session place
  pub seat : Seat Op Reply
  pub was : slice_get s.seats place ≡ Some seat
  pub end : IsEndOf seat key

-- that makes its seat free
pub record Frees {Op Reply : Type 0} (key : Key) (s z : ClientsState Op Reply) : Type 0 where
  pub place : ℕ
  pub ends : EndsAtPlace s place key
  pub becomes : z ≡ record s {
    seats = slice_set s.seats place (closed_seat ends.seat.number);
    free = s.free ++ (place ∷ []);
  }
