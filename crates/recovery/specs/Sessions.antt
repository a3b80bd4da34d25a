-- Which sessions a list of commands is of, and that a hall keeps nothing of them.
use Rattle.std.specs.Prelude.{◌≡◌, ◌≢◌, ◌↔◌, ℕ, List, All, Any, Contains, None}
use Rattle.std.specs.FinMap.{get}
use Rattle.std.specs.List.Sorted.{IsStrictlyIncreasing}
use Rattle.object.specs.declared.command.Command.{Command}
use Rattle.forgetting_hall.specs.Halls.{ForgettingState}

-- some command is of the session; the clock is none
abbrev pub HasCommandOf : {Op : Type 0} → ℕ → List (Command Op) → Type 0
HasCommandOf session commands = (session ≢ 0) × Any (λ c. c.key.session ≡ session) commands

-- these are the sessions of the commands, each once, in rising order
pub record AreSessionsOf {Op : Type 0} (sessions : List ℕ) (commands : List (Command Op)) : Type 0 where
  pub rising : IsStrictlyIncreasing sessions
  pub all : (session : ℕ) → Contains sessions session ↔ HasCommandOf session commands

-- the hall keeps nothing of any of these sessions
abbrev pub KeepsNoneOf : {Op O Reply : Type 0} → ForgettingState Op O Reply → List ℕ → Type 0
KeepsNoneOf h sessions = All (λ session. get h.summary.clients session ≡ None) sessions
