use Rattle.std.proofs.Common.{length}
use Rattle.bean_queue.specs.HolderLines.{HasAllHolders}
use Rattle.bean_queue.proofs.holder_line.HolderLine.next.Given as goal

abbrev pub invariant-places : goal.invariant-places
invariant-places g l = HasAllHolders l.self l.second (g.M.JobMap.entries l.jobs) l.sessions.entries

abbrev pub decreases-places : goal.decreases-places
decreases-places g l = length l.self.places.keys
