-- What a hall keeps from one state to a later one.
use Rattle.std.specs.Prelude.{◌≡◌, ◌≤◌, ℕ, length}
use Rattle.hall.specs.Books.{last_number}
use Rattle.hall.specs.Explained.{IsBegun}
use Rattle.hall.specs.Halls.{HallState}

-- What happened is the beginning of what happened by then, and the members stay. The second doesn't fall, and neither does the
-- number of sessions that were opened, nor the number of any session's last command.
pub record HallGoesOn {Op Reply : Type 0} (old new : HallState Op Reply) : Type 0 where
  pub past : IsBegun old.nodes.past new.nodes.past
  pub members : new.nodes.network.members ≡ old.nodes.network.members
  pub second : old.second ≤ new.second
  pub sessions : length old.book ≤ length new.book
  pub numbers : (session : ℕ) → last_number old.book session ≤ last_number new.book session

-- and no session was opened or handed in anything
pub record HallTurnsOn {Op Reply : Type 0} (old new : HallState Op Reply) : Type 0 where
  pub goes_on : HallGoesOn old new
  pub book : new.book ≡ old.book
