use Rattle.std.proofs.Common.{◌≡◌, take}
use Rattle.leader.specs.Greatest.{all_taken}
use Rattle.leader.proofs.greatest.take_greatest.Given as goal

abbrev pub invariant-loop-pvalue : goal.invariant-loop-pvalue
invariant-loop-pvalue g l = l.taken ≡ all_taken l.greatest l.fn.taken (take l.pvalue-index l.pvalues)
