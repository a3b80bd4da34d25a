use Rattle.std.proofs.Common.{◌∙◌, arith}
use Rattle.std.proofs.lemmas.Grind.{common_steps}
use Rattle.ballot.proofs.Sending.{one_more, with_last}
use Rattle.ballot.proofs.letter.append_to_all.Goals as goal

pub loop-before-preserved : goal.loop-before-preserved
loop-before-preserved g c = record {
  sent = one_more c.args.out.now.items c.loop-before.out.items _ c.args.from c.loop-before.before c.args.body
      c.in_ok-copy.field-0 c.loop-before.invariant.sent
      (c.in_ok-copy.ensures ∙ c.loop-before.invariant.same) c.in_ok-push.ensures.items;
  same = c.loop-before.invariant.same;
  front = grind (arith, common_steps);
}

pub returns : goal.returns
returns g c =
    let some = c.count-last.ensures.some in
    let last = c.loop-before-test.false in
    let within = c.loop-before.auto.before-end in
    record {
      ok = (
        with_last c.args.out.now.items c.loop-before.out.items _ c.args.members c.args.from c.loop-before.before
            c.count-last.result c.args.body _
            (omega arith) c.count-last.ensures.count c.loop-before.invariant.sent c.loop-before.invariant.same
            c.in_ok-push-2.ensures.items,
        grind (arith, common_steps),
      );
    }
