-- What is so of several calls of a hall that forgets.
use Rattle.std.specs.Prelude.{◌≡◌, ℕ, Option, Result, OnOk, OnErr}
use Rattle.object.specs.Objects.{Rules}
use Rattle.object.specs.declared.command.Command.{Command}
use Rattle.agreement.specs.declared.event.Event.TheVariants.{Submit}
use Rattle.hall.specs.declared.error.HallError.{HallError}
use Rattle.hall.specs.Refusals.{Refuses}
use Rattle.forgetting_hall.specs.Halls.{ForgettingState, rest_of_hall, FollowsIn, ShowsStill}
use Rattle.forgetting_hall.specs.Rests.{HallRest, handed_in}

-- At Ok the command was handed in at node n, which is the event of that name. What it gathers stays. Else the call was
-- refused, for this reason or for want of memory, and nothing changed.
pub record TakesIn {O Op Reply : Type 0} (rules : Rules O Op Reply) (n : ℕ) (c : Command Op) (reason : Option HallError)
    (result : Result Unit HallError) (old new : ForgettingState Op O Reply) : Type 0 where
  pub ok : OnOk result (rest_of_hall rules new ≡ handed_in rules (rest_of_hall rules old) n c)
  pub event : OnOk result (FollowsIn rules old (Submit n c) new)
  pub gathering : new.gathering ≡ old.gathering
  pub refused : Refuses reason result old new

-- At Ok the hall keeps this, and else what it kept before. That is no event, and what it gathers stays.
pub record IsNoEvent {O Op Reply T : Type 0} (rules : Rules O Op Reply) (rest : HallRest Op O Reply) (result : Result T HallError)
    (old new : ForgettingState Op O Reply) : Type 0 where
  pub ok : OnOk result (rest_of_hall rules new ≡ rest)
  pub still : ShowsStill rules old new
  pub gathering : new.gathering ≡ old.gathering
  pub err : OnErr result (new ≡ old)
