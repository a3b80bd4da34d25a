use Rattle.std.proofs.Common.{◌≡◌, take}
use Rattle.leader.specs.Greatest.{all_raised}
use Rattle.leader.proofs.greatest.note_greatest.Given as goal

abbrev pub invariant-loop-pvalue : goal.invariant-loop-pvalue
invariant-loop-pvalue g l = l.greatest ≡ all_raised l.fn.greatest (take l.pvalue-index l.pvalues)
