use Rattle.pause_store.proofs.OneTube.{its-own, others}
use Rattle.pause_store.proofs.laws.one_tube_is_paused.Goals as goal

pub returns-clause-its_own : goal.returns-clause-its_own
returns-clause-its_own c = its-own

pub returns-clause-others : goal.returns-clause-others
returns-clause-others c = others
