-- What a hall that gathers commands has told, in the one order.
use Rattle.std.specs.Prelude.{◌≡◌, ℕ, true, List, ◌++◌}
use Rattle.object.specs.Objects.{Rules}
use Rattle.object.specs.declared.command.Command.{Command}
use Rattle.agreement.specs.Runs.{IsWorld}
use Rattle.agreement.specs.Worlds.{World}
use Rattle.forgetting_hall.specs.Effects.{TookEffect}
use Rattle.forgetting_hall.specs.Halls.{ForgettingState, rest_of_hall}
use Rattle.forgetting_hall.specs.Rests.{ShowsWorld}

-- A hall of these members gathers, and shows a world that events lead to in which what was taken from it took effect, and behind that
-- what it has gathered since, in this order, and nothing else.
pub record HasTold {O Op Reply : Type 0} (rules : Rules O Op Reply) (members : List ℕ) (h : ForgettingState Op O Reply)
    (told : List (Command Op)) : Type 0 where
  pub has_members : h.network.members ≡ members
  pub gathers : h.gathering.is_on ≡ true
  pub world : World Op Reply
  pub reachable : IsWorld rules world
  pub shown : ShowsWorld rules (rest_of_hall rules h) world
  pub took : TookEffect world (told ++ h.gathering.commands)

-- from the one to the other nothing is told, what takes effect is gathered, and the members stay
abbrev pub TellsOn : {O Op Reply : Type 0} → Rules O Op Reply → ForgettingState Op O Reply → ForgettingState Op O Reply → Type 0
TellsOn {O} {Op} rules h z = (members : List ℕ) (told : List (Command Op)) → HasTold rules members h told → HasTold rules members z told
