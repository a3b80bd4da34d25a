-- What a hall that forgets gathers: the commands that take effect, in the one order.
use Rattle.std.specs.Prelude.{Bool, false, if◌then◌else◌, Option, None, List, [], ◌++◌}
use Rattle.std.specs.Option.{option_to_list}
use Rattle.object.specs.declared.command.Command.{Command}

-- whether it gathers them, and those that took effect since it was asked for them
pub record Gathering (Op : Type 0) : Type 0 where
  pub is_on : Bool
  pub commands : List (Command Op)

-- it gathers none
abbrev pub not_gathering : {Op : Type 0} → Gathering Op
not_gathering = record { is_on = false; commands = [] }

-- a command takes effect, where there is one
abbrev pub gathered : {Op : Type 0} → Option (Command Op) → Gathering Op → Gathering Op
gathered c g = record g { commands = g.commands ++ option_to_list (if g.is_on then c else None) }
