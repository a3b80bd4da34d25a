use Rattle.std.proofs.Common.{◌≡◌, ◌++◌, take}
use Rattle.scout_commander.specs.Reports.{IsFresh, beyond}
use Rattle.scout_commander.proofs.gathered.Gathered.append_new.Given as goal

abbrev pub invariant-loop-pvalue : goal.invariant-loop-pvalue
invariant-loop-pvalue g l = record {
  kept : l.self ≡ l.initial.self ++ beyond l.initial.self l.self;
  fresh : IsFresh l.initial.self (take l.pvalue-index l.report) (beyond l.initial.self l.self);
}
