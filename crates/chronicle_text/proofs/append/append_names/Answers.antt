use Rattle.std.proofs.Common.{take, arith, rules}
use Rattle.chronicle_text.specs.Lines.{spaced}
use Rattle.std.proofs.lemmas.Grind.{common_steps}
use Rattle.bean_words.specs.Names.{IsName}
use Rattle.chronicle_text.proofs.texts.Texts.{front_kept}
use Rattle.chronicle_text.proofs.spelling.ValueLists.{all_next, all_through}
use Rattle.chronicle_text.proofs.append.append_names.Goals as goal

pub returns-in_err-append_word-clause-ok : goal.returns-in_err-append_word-clause-ok
returns-in_err-append_word-clause-ok c = (
  search rules,
  front_kept c.args.out.now.items
      (spaced (take c.loop-name.name-index c.args.names.now)) c.loop-name.out.items c.append_word.new.out.items _ _
      c.args.out.now.ok.0 c.loop-name.out.ok.0 c.loop-name.invariant.told c.append_word.ensures.ok.1,
)

pub loop-name-preserved : goal.loop-name-preserved
loop-name-preserved c = record {
  told = grind (arith, common_steps);
  value = all_next IsName c.args.names.now c.loop-name.name-index c.name-item.result c.loop-name-test.true
      c.name-item.is c.loop-name.invariant.value c.as_slice.ensures.rule;
}

pub returns-clause-value : goal.returns-clause-value
returns-clause-value c = all_through IsName c.args.names.now c.loop-name.name-index c.loop-name-test.false c.loop-name.invariant.value
