use Rattle.std.proofs.Common.{arith, ◌+◌, ap, ◌∙◌, eq-eqb, ne_eqb}
use Rattle.std.proofs.lemmas.Grind.{common_steps}
use Rattle.ballot.specs.declared.letter.LetterBody.TheVariants.{Ask}
use Rattle.replica.proofs.Others.{other_more, self_more}
use Rattle.replica.proofs.replica.Replica.append_asks.Goals as goal
use Rattle.replica.proofs.replica.Replica.append_asks.Goals.{then-to-node+in_ok-push, else-to-node}

pub loop-before-preserved : goal.loop-before-preserved
loop-before-preserved g c = elim c.if-to-node.branch [
  | then-to-node+in_ok-push w ↦ record {
    sent = other_more c.args.out.now.items c.loop-before.out.items _ c.args.node c.loop-before.before
        (Ask c.in-Some.slot) (ne_eqb (c.loop-before.before + 1) c.args.node w.if-to-node.true)
        c.loop-before.invariant.sent (ap (λ o. o.items) w.out-is ∙ w.in_ok-push.ensures.items);
    front = grind (arith, common_steps);
  }
  | else-to-node w ↦ record {
    sent = ap (λ o. o.items) w.out-is ∙ self_more c.args.out.now.items c.loop-before.out.items c.args.node
        c.loop-before.before (Ask c.in-Some.slot)
        (eq-eqb (c.loop-before.before + 1) c.args.node w.if-to-node.false) c.loop-before.invariant.sent;
    front = grind (arith, common_steps);
  }
]
