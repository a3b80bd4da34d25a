-- What is told of a fault.
use Rattle.std.proofs.Common.{refl}
use Rattle.beanpax.proofs.entry.status_after.Goals as goal

pub returns-in-Err-clause-fault : goal.returns-in-Err-clause-fault
returns-in-Err-clause-fault g c = rw c.in-Err.is (refl, c.tell_fault.ensures)
