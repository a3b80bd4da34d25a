use Rattle.bean_queue.proofs.answering.OneAnswer.{each_once}
use Rattle.bean_queue.proofs.laws.one_answer.Goals as goal

pub returns : goal.returns
returns c = each_once
