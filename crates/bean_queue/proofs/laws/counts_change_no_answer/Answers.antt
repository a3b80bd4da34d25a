use Rattle.bean_queue.proofs.blind.Blind.{effect-respects, effect-state}
use Rattle.bean_queue.proofs.laws.counts_change_no_answer.Goals as goal

pub returns-clause-answers : goal.returns-clause-answers
returns-clause-answers c = λ command s t plain e. (effect-respects command plain s t e).answers

pub returns-clause-state : goal.returns-clause-state
returns-clause-state c = effect-state
