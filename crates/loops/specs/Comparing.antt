-- What is known of a hall when all that was served there has ended.
use Rattle.std.specs.Prelude.{◌≡◌, ℕ, Bool, true, List, length, sum, All, Option, None}
use Rattle.event_loops.specs.declared.fault.ServeFault.{ServeFault}

-- There is a mark for each session that was opened, which is set where its ticket agreed with the hall at its end. Where no
-- fault is told all are set, and these tickets have as many acts as commands were handed in.
pub record AllCompared (book : List ℕ) (compared : List Bool) (acts : ℕ) (fault : Option ServeFault) : Type 0 where
  pub marked : length compared ≡ length book
  pub agreed : fault ≡ None → All (λ mark. mark ≡ true) compared
  pub handed_in : fault ≡ None → acts ≡ sum book
