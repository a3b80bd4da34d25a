use Rattle.std.proofs.Common.{take, arith, rules}
use Rattle.std.proofs.lemmas.Grind.{common_steps}
use Rattle.std.specs.List.{flat_map}
use Rattle.chronicle_text.specs.Dump.{answer_line}
use Rattle.chronicle_text.specs.Values.{IsAnswerValue}
use Rattle.chronicle_text.proofs.texts.Texts.{front_kept}
use Rattle.chronicle_text.proofs.spelling.ValueLists.{all_next, all_through}
use Rattle.chronicle_text.proofs.writer.append_answers.Goals as goal

pub returns-in_err-append_answer-clause-ok : goal.returns-in_err-append_answer-clause-ok
returns-in_err-append_answer-clause-ok c = (
  search rules,
  front_kept c.args.out.now.items
      (flat_map answer_line (take c.loop-answer.answer-index c.args.answers.now)) c.loop-answer.out.items
      c.append_answer.new.out.items _ _ c.args.out.now.ok.0 c.loop-answer.out.ok.0 c.loop-answer.invariant.told
      c.append_answer.ensures.ok.1,
)

pub loop-answer-preserved : goal.loop-answer-preserved
loop-answer-preserved c = record {
  told = grind (arith, common_steps);
  value = all_next IsAnswerValue c.args.answers.now c.loop-answer.answer-index c.answer-item.result
      c.loop-answer-test.true c.answer-item.is c.loop-answer.invariant.value c.in_ok-append_answer.ensures.value;
}

pub returns-clause-value : goal.returns-clause-value
returns-clause-value c = all_through IsAnswerValue c.args.answers.now c.loop-answer.answer-index c.loop-answer-test.false c.loop-answer.invariant.value
