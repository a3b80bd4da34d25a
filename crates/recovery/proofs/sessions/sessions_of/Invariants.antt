use Rattle.std.proofs.Common.{◌≢◌, ℕ, List, take}
use Rattle.std.specs.List.{All, Contains}
use Rattle.object.specs.declared.command.Command.{Command}
use Rattle.recovery.specs.Sessions.{HasCommandOf}
use Rattle.recovery.proofs.sessions.sessions_of.Given as goal

-- of the first i commands all sessions were noted, the last of them too, and nothing but sessions of commands
pub record HasNoted {Op : Type 0} (commands : List (Command Op)) (i : ℕ) (sessions : List ℕ) (last : ℕ) : Type 0 where
  pub few : All (λ session. HasCommandOf session commands) sessions
  pub all : All (λ c. c.key.session ≢ 0 → Contains sessions c.key.session) (take i commands)
  pub newest : last ≢ 0 → Contains sessions last

abbrev pub invariant-loop-command : goal.invariant-loop-command
invariant-loop-command g l = HasNoted l.commands l.command-index l.sessions.items l.last
