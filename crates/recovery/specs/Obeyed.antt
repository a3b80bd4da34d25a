-- How far a start from a log has come.
use Rattle.std.specs.Prelude.{◌≡◌, ℕ, List}
use Rattle.std.specs.BTreeSet.{BTreeSet, contains}
use Rattle.std.specs.Ordering.{nat_cmp}
use Rattle.object.specs.Objects.{Rules}
use Rattle.object.specs.declared.command.Command.{Command}
use Rattle.forgetting_hall.specs.Halls.{ForgettingState}
use Rattle.forgetting_hall.specs.Telling.{HasTold}
use Rattle.recovery.specs.Clocks.{last_second_in}
use Rattle.recovery.specs.Opened.{is_left_open}

-- the hall, the sessions that are open, the greatest second, and all sessions of the log
pub record RecoveryState (Op O Reply : Type 0) : Type 0 where
  pub hall : ForgettingState Op O Reply
  pub live : BTreeSet ℕ
  pub second : ℕ
  pub sessions : List ℕ

-- these are the sessions that the commands leave open
abbrev pub AreLeftOpen : {Op : Type 0} → BTreeSet ℕ → List (Command Op) → Type 0
AreLeftOpen live commands = (session : ℕ) → contains nat_cmp live session ≡ is_left_open session commands

-- In the hall of these members these commands took effect, in this order and no others; and it is known which sessions
-- they leave open, and what their last second is.
pub record HasReplayed {O Op Reply : Type 0} (rules : Rules O Op Reply) (members : List ℕ) (r : RecoveryState Op O Reply)
    (commands : List (Command Op)) : Type 0 where
  pub told : HasTold rules members r.hall commands
  pub live : AreLeftOpen r.live commands
  pub second : r.second ≡ last_second_in commands
