use Rattle.bean_queue.proofs.tubes.TubeLists.{tubes-sorted, tubes-all}
use Rattle.bean_queue.proofs.laws.tubes_are_listed_once.Goals as goal

pub returns-clause-order : goal.returns-clause-order
returns-clause-order c = tubes-sorted

pub returns-clause-exact : goal.returns-clause-exact
returns-clause-exact c = tubes-all
