use Rattle.std.proofs.Common.{ap, arith}
use Rattle.std.proofs.lemmas.Grind.{common_steps}
use Rattle.ballot.specs.declared.letter.LetterBody.TheVariants.{Propose}
use Rattle.ballot.proofs.Sending.{one_more}
use Rattle.replica.proofs.replica.send_copies.Goals as goal

pub loop-before-preserved : goal.loop-before-preserved
loop-before-preserved g c = record {
  sent = one_more c.args.out.now.items c.loop-before.out.items _ c.args.node c.loop-before.before
      (Propose c.args.slot c.args.command.now) (Propose c.args.slot c.in_ok-copy.field-0) c.loop-before.invariant.sent
      (ap (λ x. Propose c.args.slot x) c.in_ok-copy.ensures) c.in_ok-push.ensures.items;
  front = grind (arith, common_steps);
}
