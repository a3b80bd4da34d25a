use Rattle.std.proofs.Common.{◌≡◌, map}
use Rattle.std.specs.FinMap.{from_entries}
use Rattle.std.specs.Map.Iter.{deref_pair}
use Rattle.ballot.proofs.Turns.{made}
use Rattle.leader.proofs.leader.copying.copy_commanders.Given as goal

abbrev pub invariant-loop-slot : goal.invariant-loop-slot
invariant-loop-slot g l = l.copy ≡ from_entries (map (made (λ s c. c)) (map deref_pair l.yielded))
