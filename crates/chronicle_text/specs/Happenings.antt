-- What happened, as one list.
use Rattle.std.specs.Prelude.{ℕ, suc, ◌==◌, List, [], ◌∷◌, ◌++◌, map, filter}
use Rattle.object.specs.declared.command.Answer.{Answer}
use Rattle.object.specs.declared.command.Command.{Command}
use Rattle.object.specs.declared.command.Submission.{Submission}

-- a command was submitted, or an answer was given
pub data Happening (Op Reply : Type 0) : Type 0 where
  Submitted : Command Op → Happening Op Reply
  Answered : Answer Reply → Happening Op Reply

-- the submissions that came when so many answers had been given
abbrev pub came_at : {Op : Type 0} → ℕ → List (Submission Op) → List (Submission Op)
came_at given submitted = filter (λ s. s.after == given) submitted

-- what happened between two answers
abbrev pub moment : {Op Reply : Type 0} → ℕ → List (Submission Op) → List (Happening Op Reply)
moment given submitted = map (λ s. Submitted s.command) (came_at given submitted)

-- The answers in their order. Before each of them, and after the last, stand the submissions that came then. The number
-- counts the answers that were given before.
abbrev pub happenings_from : {Op Reply : Type 0} → ℕ → List (Submission Op) → List (Answer Reply) → List (Happening Op Reply)
happenings_from given submitted [] = moment given submitted
happenings_from given submitted (a ∷ more) = moment given submitted ++ (Answered a ∷ happenings_from (suc given) submitted more)

-- all that happened
abbrev pub happenings : {Op Reply : Type 0} → List (Submission Op) → List (Answer Reply) → List (Happening Op Reply)
happenings submitted answers = happenings_from 0 submitted answers
