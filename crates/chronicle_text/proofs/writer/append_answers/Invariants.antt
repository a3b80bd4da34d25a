use Rattle.std.proofs.Common.{◌≡◌, ◌++◌, take}
use Rattle.std.specs.List.{AllByRecursion, flat_map}
use Rattle.chronicle_text.specs.Dump.{answer_line}
use Rattle.chronicle_text.specs.Values.{IsAnswerValue}
use Rattle.chronicle_text.proofs.writer.append_answers.Given as goal

abbrev pub invariant-loop-answer : goal.invariant-loop-answer
invariant-loop-answer l = record {
  told : l.out.items ≡ l.fn.out.items ++ flat_map answer_line (take l.answer-index l.answers);
  value : AllByRecursion IsAnswerValue (take l.answer-index l.answers);
}
