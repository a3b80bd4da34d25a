use Rattle.std.proofs.Common.{drop}
use Rattle.bean_queue.proofs.due.Lines.{AreJoined}
use Rattle.bean_queue.proofs.holder_line.HolderLine.of.Given as goal

abbrev pub invariant-loop-number : goal.invariant-loop-number
invariant-loop-number l = AreJoined l.line l.numbers (drop l.number-index l.numbers) l.sessions.entries
