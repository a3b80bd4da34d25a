-- Where the clock stands after a list of commands.
use Rattle.std.specs.Prelude.{ℕ, ◌==◌, max, List, filter, map, fold}
use Rattle.object.specs.declared.command.Command.{Command}

-- the numbers of the clock's commands, which are of session 0: the seconds that it showed
abbrev pub seconds_in : {Op : Type 0} → List (Command Op) → List ℕ
seconds_in commands = map (λ c. c.key.number) (filter (λ c. c.key.session == 0) commands)

-- the greatest of them, 0 where there is none
abbrev pub last_second_in : {Op : Type 0} → List (Command Op) → ℕ
last_second_in commands = fold max 0 (seconds_in commands)
