use Rattle.std.proofs.Common.{take, arith, rules}
use Rattle.std.proofs.lemmas.Grind.{common_steps}
use Rattle.std.specs.List.{flat_map}
use Rattle.chronicle_text.specs.Dump.{order_line}
use Rattle.chronicle_text.specs.Values.{IsKeyValue}
use Rattle.chronicle_text.proofs.texts.Texts.{front_kept}
use Rattle.chronicle_text.proofs.spelling.ValueLists.{all_next_or, all_through}
use Rattle.chronicle_text.proofs.writer.append_order.Goals as goal

pub returns-in_err-append_place-clause-ok : goal.returns-in_err-append_place-clause-ok
returns-in_err-append_place-clause-ok c = (
  search rules,
  front_kept c.args.out.now.items
      (flat_map order_line (take c.loop-key.key-index c.args.order.now)) c.loop-key.out.items
      c.append_place.new.out.items _ _ c.args.out.now.ok.0 c.loop-key.out.ok.0 c.loop-key.invariant.told
      c.append_place.ensures.ok.1,
)

pub loop-key-preserved : goal.loop-key-preserved
loop-key-preserved c = record {
  told = grind (arith, common_steps);
  value = all_next_or IsKeyValue c.args.order.now c.loop-key.key-index _ c.loop-key-test.true c.loop-key.invariant.value c.append_place.ensures.value;
}

pub returns-clause-value : goal.returns-clause-value
returns-clause-value c = all_through IsKeyValue c.args.order.now c.loop-key.key-index c.loop-key-test.false c.loop-key.invariant.value
