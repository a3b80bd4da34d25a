use Rattle.std.proofs.Common.{length}
use Rattle.session_store.specs.Lines.{AllStand}
use Rattle.session_store.specs.LateLines.{StandsIfLate}
use Rattle.session_store.proofs.late_line.LateLine.next.Given as goal

abbrev pub invariant-loop-place : goal.invariant-loop-place
invariant-loop-place l = AllStand (StandsIfLate l.second l.self) l.sessions.entries

abbrev pub decreases-loop-place : goal.decreases-loop-place
decreases-loop-place l = length l.self.places.keys
