-- The book of a hall: how many commands each session has handed in.
use Rattle.std.specs.Prelude.{◌≡◌, ℕ, zero, suc, ◌+◌, ◌<◌, ◌≤◌, ◌^◌, ◌==◌, ◌&&◌, nat_le, max, Bool, true, List, map, filter, length, slice_index_or, slice_set}
use Rattle.std.specs.List.{range_with_len, fold}
use Rattle.object.specs.Lists.{In}
use Rattle.object.specs.Commands.{IsCommand}
use Rattle.object.specs.declared.command.Key.{Key}
use Rattle.object.specs.declared.command.Submission.{Submission}

-- the submissions of a session, in the order in which they came
abbrev pub submissions_of : {Op : Type 0} → ℕ → List (Submission Op) → List (Submission Op)
submissions_of session submitted = filter (λ s. s.command.key.session == session) submitted

-- their numbers
abbrev pub numbers_of : {Op : Type 0} → ℕ → List (Submission Op) → List ℕ
numbers_of session submitted = map (λ s. s.command.key.number) (submissions_of session submitted)

-- the greatest second that the clock handed in, 0 where there is none
abbrev pub last_second : {Op : Type 0} → List (Submission Op) → ℕ
last_second submitted = fold max 0 (numbers_of 0 submitted)

-- the session was opened: sessions are numbered from 1
abbrev pub is_opened : List ℕ → ℕ → Bool
is_opened book session = nat_le 1 session && nat_le session (length book)

-- the number of a session's last command, 0 where there is none
abbrev pub last_number : List ℕ → ℕ → ℕ
last_number book zero = 0
last_number book (suc i) = slice_index_or book i 0

-- the session's last command has this number
abbrev pub with_number : List ℕ → ℕ → ℕ → List ℕ
with_number book zero number = book
with_number book (suc i) number = slice_set book i number

-- the key is the next one of a session that was opened
pub record IsNextKey (book : List ℕ) (key : Key) : Type 0 where
  pub opened : is_opened book key.session ≡ true
  pub number : key.number ≡ last_number book key.session + 1

-- For each session that was opened the book has the number of its last command: its submissions are those from 1 to that
-- number, each once, in order; and there are none of other sessions but the clock's. No number is greater than the count
-- of events, and what was submitted are commands.
pub record IsBooked {Op : Type 0} (book : List ℕ) (submitted : List (Submission Op)) (taken : ℕ) : Type 0 where
  pub sessions : length book < 2 ^ 32
  pub numbers : (session : ℕ) → 0 < session → numbers_of session submitted ≡ range_with_len 1 (last_number book session)
  pub few : (session : ℕ) → last_number book session ≤ taken
  pub commands : (s : Submission Op) → In s submitted → IsCommand s.command
