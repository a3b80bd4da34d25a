use Rattle.std.proofs.Common.{◌≡◌, ◌≤◌, ℕ, length}
use Rattle.std.specs.BTreeMap.{get}
use Rattle.ballot.specs.Ballots.{Numbers}
use Rattle.scout_commander.specs.Starts.{place_cmp}
use Rattle.scout_commander.proofs.gathered.drop_starts.Given as goal

abbrev pub invariant-loop-slot : goal.invariant-loop-slot
invariant-loop-slot l = (place : ℕ × Numbers) → l.base ≤ place.0 → get place_cmp l.starts place ≡ get place_cmp l.initial.starts place

abbrev pub decreases-loop-slot : goal.decreases-loop-slot
decreases-loop-slot l = length l.starts.entries
