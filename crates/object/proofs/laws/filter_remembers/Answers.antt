use Rattle.object.proofs.Filters.{remembers_none, remembers_done, remembers_stale}
use Rattle.object.proofs.laws.filter_remembers.Goals as goal

pub returns-clause-none : goal.returns-clause-none
returns-clause-none g c = remembers_none

pub returns-clause-done : goal.returns-clause-done
returns-clause-done g c = remembers_done

pub returns-clause-stale : goal.returns-clause-stale
returns-clause-stale g c = remembers_stale
