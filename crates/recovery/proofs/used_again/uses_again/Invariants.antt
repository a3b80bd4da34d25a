use Rattle.std.proofs.Common.{◌≡◌, [], take, drop}
use Rattle.recovery.specs.UsedAgain.{uses_again}
use Rattle.recovery.proofs.Ended.{AreEnded}
use Rattle.recovery.proofs.used_again.uses_again.Given as goal

-- those that the commands so far end; and what is left has to tell
abbrev pub invariant-loop-command : goal.invariant-loop-command
invariant-loop-command g l = AreEnded l.ended (take l.command-index l.commands)
    × (uses_again (take l.command-index l.commands) (drop l.command-index l.commands) ≡ uses_again [] l.commands)
