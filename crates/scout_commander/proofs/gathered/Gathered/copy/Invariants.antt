use Rattle.std.proofs.Common.{◌≡◌, take}
use Rattle.scout_commander.proofs.gathered.Gathered.copy.Given as goal

abbrev pub invariant-loop-pvalue : goal.invariant-loop-pvalue
invariant-loop-pvalue g l = l.copy ≡ take l.pvalue-index l.pvalues
