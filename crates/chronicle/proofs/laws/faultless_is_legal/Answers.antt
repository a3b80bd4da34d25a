use Rattle.chronicle.specs.Checking.{ordered_commands}
use Rattle.chronicle.proofs.verdicts.Legal.{faultless_is_legal}
use Rattle.chronicle.proofs.laws.faultless_is_legal.Goals as goal

pub returns-clause-legal : goal.returns-clause-legal
returns-clause-legal c = faultless_is_legal c.one_answer.ensures

pub returns-clause-held : goal.returns-clause-held
returns-clause-held c ch = c.one_holder.ensures.ended (ordered_commands ch)
