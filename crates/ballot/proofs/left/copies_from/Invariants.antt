use Rattle.std.proofs.Common.{◌≡◌, take}
use Rattle.ballot.specs.Rests.{pvalues_from}
use Rattle.ballot.proofs.left.copies_from.Given as goal

abbrev pub invariant-loop-pvalue : goal.invariant-loop-pvalue
invariant-loop-pvalue g l = l.copies.items ≡ pvalues_from l.base (take l.pvalue-index l.pvalues)
