-- That a session's number is used again: a command comes behind the end of its session.
use Rattle.std.specs.Prelude.{ℕ, Bool, false, ◌&&◌, ◌||◌, ◌==◌, List, [], ◌∷◌, ◌++◌}
use Rattle.std.specs.List.{list_any}
use Rattle.object.specs.declared.command.Command.{Command}
use Rattle.hall.specs.Tickets.{is_close}

-- one of these commands ends the session
abbrev pub has_end_of : {Op : Type 0} → ℕ → List (Command Op) → Bool
has_end_of session commands = list_any (λ c. is_close c.act && (c.key.session == session)) commands

-- one of the commands that come behind others comes behind the end of its session
unfoldable pub uses_again : {Op : Type 0} → List (Command Op) → List (Command Op) → Bool
uses_again before [] = false
uses_again before (c ∷ cs) = has_end_of c.key.session before || uses_again (before ++ c ∷ []) cs
