-- Members that are gone over in rising number, while the heaviest that passes a test is kept.
use Rattle.std.proofs.Common.{◌≡◌, ℕ, ◌≤◌, Bool, true, List}
use Rattle.ballot.specs.Members.{is_member}
use Rattle.simulated_hall.specs.Driving.{weighs}

-- no member up to here that passes it weighs more than this one
abbrev pub NoneHeavier : List ℕ → (ℕ → Bool) → ℕ → ℕ → Type 0
NoneHeavier members test n best =
    (m : ℕ) → is_member members m ≡ true → m ≤ n → test m ≡ true → weighs members m ≤ weighs members best
