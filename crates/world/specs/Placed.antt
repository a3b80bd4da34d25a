-- When a command took effect.
use Rattle.std.specs.Prelude.{◌==◌, ◌&&◌, nat_le, if◌then◌else◌, List, [], ◌∷◌, Option, None, Some}
use Rattle.object.specs.Replays.{kept}
use Rattle.object.specs.declared.command.Command.{Command}
use Rattle.object.specs.declared.command.Key.{Key}
use Rattle.agreement.specs.Worlds.{World}
use Rattle.agreement.specs.Reached.{IsReached, HasKey}

-- the key stands among the commands up to the reach that are kept
abbrev pub IsPlaced : {Op Reply : Type 0} → World Op Reply → Key → Type 0
IsPlaced {Op} w key = (cs : List (Command Op)) × IsReached w cs × HasKey key (kept cs)

-- the first of these keys that is of the key's session and has no lower number
abbrev pub first_as_late : Key → List Key → Option Key
first_as_late key [] = None
first_as_late key (own ∷ rest) = if own.session == key.session && nat_le key.number own.number then Some own else first_as_late key rest
