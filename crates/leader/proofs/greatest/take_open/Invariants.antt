use Rattle.std.proofs.Common.{◌≡◌, ℕ, map}
use Rattle.std.specs.Option.{option_or}
use Rattle.std.specs.Ordering.{nat_cmp}
use Rattle.std.specs.FinMap.{get, find}
use Rattle.std.specs.Map.Iter.{deref_pair}
use Rattle.leader.proofs.greatest.take_open.Given as goal

abbrev pub invariant-loop-slot : goal.invariant-loop-slot
invariant-loop-slot g l = (s : ℕ) → get l.taken s ≡ option_or (get l.fn.taken s) (find nat_cmp s (map deref_pair l.yielded))
