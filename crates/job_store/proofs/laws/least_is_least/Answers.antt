use Rattle.job_store.proofs.least.Least.{least-found, least-none, least-only}
use Rattle.job_store.proofs.laws.least_is_least.Goals as goal

pub returns-clause-found : goal.returns-clause-found
returns-clause-found g c = least-found

pub returns-clause-none : goal.returns-clause-none
returns-clause-none g c = least-none

pub returns-clause-only : goal.returns-clause-only
returns-clause-only g c = least-only
