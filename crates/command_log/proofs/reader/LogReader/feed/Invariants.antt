use Rattle.std.proofs.Common.{length}
use Rattle.command_log.proofs.Feeding.{IsFed}
use Rattle.command_log.proofs.reader.LogReader.feed.Given as goal

abbrev pub invariant-loop-end : goal.invariant-loop-end
invariant-loop-end l = IsFed l.fn.self l.fn.commands.items l.piece l.rest l.reader l.commands.items

abbrev pub decreases-loop-end : goal.decreases-loop-end
decreases-loop-end l = length l.rest
