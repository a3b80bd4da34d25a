use Rattle.std.proofs.Common.{◌≡◌, map}
use Rattle.std.specs.Map.Iter.{deref_pair}
use Rattle.acceptor.specs.Places.{pvalue_of}
use Rattle.acceptor.proofs.acceptor.Acceptor.report.Given as goal

abbrev pub invariant-loop-slot : goal.invariant-loop-slot
invariant-loop-slot g l = l.report.items ≡ map pvalue_of (map deref_pair l.yielded)
