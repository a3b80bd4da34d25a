use Rattle.std.proofs.Common.{[]}
use Rattle.lean_network.specs.LeanNetworks.{new_holding}
use Rattle.network.proofs.Opened.{one_more}
use Rattle.lean_network.proofs.Begun.{is_new, lean_opened_whole, lean_opened}
use Rattle.lean_network.proofs.lean_network.LeanNetwork.new.Goals as goal

pub loop-before-init : goal.loop-before-init
loop-before-init g c = record { nodes = c.new-nodes.ensures.items; mails = c.new-mails.ensures.items }

pub loop-before-preserved : goal.loop-before-preserved
loop-before-preserved g c = record {
  nodes = one_more (new_holding g.O.Object.rules c.args.members) _ _ c.in_ok-new.field-0 c.loop-before.before c.loop-before.invariant.nodes
      (is_new g.O.Object.rules c.args.members c.in_ok-new.field-0 _ c.in_ok-new.ensures.state c.in_ok-new.ensures.object) c.in_ok-push.ensures.items;
  mails = one_more (λ _. []) _ _ c.new-in-loop-before.result c.loop-before.before c.loop-before.invariant.mails
      c.new-in-loop-before.ensures c.in_ok-push-2.ensures.items;
}

pub invariant_of-result : goal.invariant_of-result
invariant_of-result g c = lean_opened_whole g.O.Object.rules c.args.members c.loop-before.nodes.items c.loop-before.mails.items
    c.new-2.result.items c.loop-before.before c.count-before-end.result c.count-before-end.ensures.count
    c.loop-before.auto.before-end c.loop-before-test.false c.loop-before.invariant.nodes c.loop-before.invariant.mails
    c.new-2.ensures.items

pub returns : goal.returns
returns g c = lean_opened g.O.Object.rules c.args.members c.loop-before.nodes.items c.loop-before.mails.items c.new-2.result.items
    c.loop-before.before c.count-before-end.result c.count-before-end.ensures.count c.loop-before.auto.before-end
    c.loop-before-test.false c.loop-before.invariant.nodes c.loop-before.invariant.mails c.new-2.ensures.items
