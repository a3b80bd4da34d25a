-- What an object behind its filter becomes, and what is answered to a command that comes after others.
use Rattle.std.specs.Prelude.{ℕ, ◌==◌, List, [], ◌∷◌, ◌++◌, map, filter, length, if◌then◌else◌}
use Rattle.std.specs.List.{fold}
use Rattle.std.specs.FinMap.{empty}
use Rattle.object.specs.declared.command.Answer.{Answer}
use Rattle.object.specs.declared.command.Command.{Command}
use Rattle.object.specs.Objects.{Rules}
use Rattle.object.specs.OnceOnly.{Filtered, filtered}
use Rattle.object.specs.Replays.{Placed, replay, is_new, kept}

-- the answers that a replay notes at this place
abbrev pub at_place : {Reply : Type 0} → ℕ → List (Placed Reply) → List (Answer Reply)
at_place place placed = map (λ p. p.answer) (filter (λ p. p.place == place) placed)

-- What is answered to a command that comes after these: nothing where it is not kept, else what the replay of the
-- kept commands notes at its last place.
abbrev pub answers_after : {O Op Reply : Type 0} → Rules O Op Reply → List (Command Op) → Command Op → List (Answer Reply)
answers_after rules earlier c =
    if is_new c earlier
    then at_place (length (kept earlier)) (replay rules.fresh rules.after rules.answers (kept (earlier ++ (c ∷ []))))
    else []

-- a new object behind its filter, after these commands
abbrev pub obeyed : {O Op Reply : Type 0} → Rules O Op Reply → List (Command Op) → Filtered O
obeyed rules cs = fold (filtered rules.after) (record { object = rules.fresh; latest = empty }) cs
