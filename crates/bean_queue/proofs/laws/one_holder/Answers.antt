use Rattle.bean_queue.specs.Queue.{fresh}
use Rattle.bean_queue.proofs.answering.OneAnswer.{placed}
use Rattle.bean_queue.proofs.holders.OneHolder.{given_once, held_by_one}
use Rattle.bean_queue.proofs.laws.one_holder.Goals as goal

pub returns-clause-once : goal.returns-clause-once
returns-clause-once c = given_once

pub returns-clause-ended : goal.returns-clause-ended
returns-clause-ended c = held_by_one

pub returns-clause-replay : goal.returns-clause-replay
returns-clause-replay c = λ commands. placed 0 commands fresh
