-- What a server's log has of what took effect in its hall.
use Rattle.std.specs.Prelude.{◌≡◌, ℕ, Bool, true, List, [], length, if◌then◌else◌}
use Rattle.object.specs.Objects.{Rules}
use Rattle.object.specs.declared.command.Command.{Command}
use Rattle.forgetting_hall.specs.Halls.{ForgettingState}
use Rattle.forgetting_hall.specs.Telling.{HasTold}

-- of the commands that took effect in the hall the first ones were taken, so many; and the others it has gathered
abbrev pub HasTakenCount : {O Op Reply : Type 0} → Rules O Op Reply → ForgettingState Op O Reply → ℕ → Type 0
HasTakenCount {O} {Op} rules h count = (told : List (Command Op)) × (length told ≡ count) × HasTold rules h.network.members h told

-- the same, where there is a log
abbrev pub HasTakenFor : {O Op Reply : Type 0} → Rules O Op Reply → ForgettingState Op O Reply → Bool → ℕ → Type 0
HasTakenFor rules h logs count = logs ≡ true → HasTakenCount rules h count

-- these are for the log, where there is one
abbrev pub for_log : {X : Type 0} → Bool → List X → List X
for_log logs xs = if logs then xs else []
