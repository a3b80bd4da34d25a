use Rattle.chronicle.proofs.verdicts.OneFault.{one_fault, faultless}
use Rattle.chronicle.proofs.laws.one_fault.Goals as goal

pub returns-clause-one : goal.returns-clause-one
returns-clause-one c = one_fault

pub returns-clause-none : goal.returns-clause-none
returns-clause-none c = faultless
