use Rattle.std.proofs.Common.{length}
use Rattle.chronicle_text.proofs.stops.ReadOn.{Reads}
use Rattle.chronicle_text.proofs.reader.read_text.Given as goal

abbrev pub invariant-loop-end : goal.invariant-loop-end
invariant-loop-end l = Reads l.draft l.text l.rest l.number

abbrev pub decreases-loop-end : goal.decreases-loop-end
decreases-loop-end l = length l.rest
