use Rattle.world.proofs.steps.Events.{new_world}
use Rattle.world.proofs.steps.Places.{one_node_more, all_nodes}
use Rattle.world.proofs.world.World.new.Goals as goal

pub loop-before-preserved : goal.loop-before-preserved
loop-before-preserved g c = one_node_more c.args.members _ _ c.in_ok-new.field-0 c.loop-before.before
    c.loop-before.invariant c.in_ok-new.ensures c.in_ok-push.ensures.items

pub invariant_of-world : goal.invariant_of-world
invariant_of-world g c = new_world c.ballot_laws.ensures g.O.Object.rules c.args.members _ _ (λ i. record {
  cluster = all_nodes c.args.members _ _ c.loop-before.before c.count-before-end.result c.count-before-end.ensures.count
      c.loop-before.auto.before-end c.loop-before-test.false c.loop-before.invariant c.new-2.ensures.items i;
  happenings = record { submitted = c.new-3.ensures.items i; answers = c.new-4.ensures.items i };
  reach = 0;
  taken = 0;
}) c.new-5.ensures.items

pub returns-clause-opening : goal.returns-clause-opening
returns-clause-opening g c = λ i. record {
  cluster = all_nodes c.args.members _ _ c.loop-before.before c.count-before-end.result c.count-before-end.ensures.count
      c.loop-before.auto.before-end c.loop-before-test.false c.loop-before.invariant c.new-2.ensures.items i;
  happenings = record { submitted = c.new-3.ensures.items i; answers = c.new-4.ensures.items i };
  reach = 0;
  taken = 0;
}
