-- What an object is, apart from its code: a new one, what a command makes of one, what it answers then, and when two
-- operations are one.
use Rattle.std.specs.Prelude.{Bool, List}
use Rattle.object.specs.declared.command.Answer.{Answer}
use Rattle.object.specs.declared.command.Command.{Command}
use Rattle.object.specs.Commands.{same_commands}
use Rattle.object.specs.Replays.{Placed, replay}

pub record Rules (O Op Reply : Type 0) : Type 0 where
  pub fresh : O
  pub after : O → Command Op → O
  pub answers : O → Command Op → List (Answer Reply)
  pub same : Op → Op → Bool

-- two commands are one
abbrev pub is_one : {O Op Reply : Type 0} → Rules O Op Reply → Command Op → Command Op → Bool
is_one rules a b = same_commands rules.same a b

-- what one object answers that obeys these commands, each answer with the place of the command that brought it
abbrev pub replay_of : {O Op Reply : Type 0} → Rules O Op Reply → List (Command Op) → List (Placed Reply)
replay_of rules commands = replay rules.fresh rules.after rules.answers commands
