use Rattle.scout_commander.specs.Starts.{HasStarts}
use Rattle.scout_commander.proofs.Rests.{LeadFrom}
use Rattle.scout_commander.proofs.gathered.set_starts.Given as goal

abbrev pub invariant-loop-index : goal.invariant-loop-index
invariant-loop-index g l = record {
  kept : HasStarts l.starts l.pvalues;
  led : LeadFrom l.index l.starts l.pvalues;
}
