-- A chronicle as it grows: with nothing yet, and with one thing more, which came last.
use Rattle.std.specs.Prelude.{ℕ, List, [], ◌∷◌, ◌++◌, length}
use Rattle.object.specs.declared.command.Answer.{Answer}
use Rattle.object.specs.declared.command.Command.{Command}
use Rattle.object.specs.declared.command.Key.{Key}
use Rattle.recorder.specs.Chronicles.{Chronicle}

-- nothing happened yet among members of these weights
abbrev pub begun : {Op Reply : Type 0} → List ℕ → Chronicle Op Reply
begun weights = record { members = weights; submitted = []; answers = []; order = [] }

-- the command is submitted after all that happened
abbrev pub submitted_last : {Op Reply : Type 0} → Command Op → Chronicle Op Reply → Chronicle Op Reply
submitted_last command c = record c { submitted = c.submitted ++ (record { command = command; after = length c.answers } ∷ []) }

-- the answer is given after all that happened
abbrev pub answered_last : {Op Reply : Type 0} → Answer Reply → Chronicle Op Reply → Chronicle Op Reply
answered_last answer c = record c { answers = c.answers ++ (answer ∷ []) }

-- the command of the key counted after all others
abbrev pub placed_last : {Op Reply : Type 0} → Key → Chronicle Op Reply → Chronicle Op Reply
placed_last key c = record c { order = c.order ++ (key ∷ []) }
