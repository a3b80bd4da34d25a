-- What a hall that forgets keeps from one state to a later one.
use Rattle.std.specs.Prelude.{◌≡◌, ◌≤◌, List}
use Rattle.object.specs.Objects.{Rules}
use Rattle.agreement.specs.Runs.{IsWorld, Leads}
use Rattle.agreement.specs.Worlds.{World}
use Rattle.agreement.specs.declared.event.Event.{Event}
use Rattle.forgetting_hall.specs.Halls.{ForgettingState, rest_of_hall}
use Rattle.forgetting_hall.specs.Handing.{second_of}
use Rattle.forgetting_hall.specs.Rests.{ShowsWorld}
use Rattle.forgetting_hall.specs.Telling.{TellsOn}

-- some events lead from the world to one that the hall shows
abbrev pub LeadsTo : {O Op Reply : Type 0} → Rules O Op Reply → World Op Reply → ForgettingState Op O Reply → Type 0
LeadsTo {O} {Op} {Reply} rules w z =
    (events : List (Event Op)) × (v : World Op Reply) × Leads rules w events v × IsWorld rules v × ShowsWorld rules (rest_of_hall rules z) v

-- Each world that events lead to and that the one shows leads by further events, or by none, to one that the other shows. The
-- members stay, and neither the number of sessions that were opened nor the greatest second falls.
pub record LeadsOn {O Op Reply : Type 0} (rules : Rules O Op Reply) (h z : ForgettingState Op O Reply) : Type 0 where
  pub worlds : (w : World Op Reply) → IsWorld rules w → ShowsWorld rules (rest_of_hall rules h) w → LeadsTo rules w z
  pub members : z.network.members ≡ h.network.members
  pub opened : h.opened ≤ z.opened
  pub second : second_of h ≤ second_of z

-- what every turn of a node keeps: nothing is told, what takes effect is gathered, and the worlds lead on
pub record TurnsOn {O Op Reply : Type 0} (rules : Rules O Op Reply) (h z : ForgettingState Op O Reply) : Type 0 where
  pub tells : TellsOn rules h z
  pub leads : LeadsOn rules h z
