use Rattle.std.proofs.Common.{◌≡◌, take}
use Rattle.recovery.specs.Clocks.{last_second_in}
use Rattle.recovery.proofs.clock.last_second_in.Given as goal

abbrev pub invariant-loop-command : goal.invariant-loop-command
invariant-loop-command g l = l.second ≡ last_second_in (take l.command-index l.commands)
