use Rattle.bean_queue.proofs.due.Owed.{tick-owes}
use Rattle.bean_queue.proofs.laws.tick_owes_nothing.Goals as goal

pub returns : goal.returns
returns c = tick-owes
