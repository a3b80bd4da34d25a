use Rattle.std.proofs.Common.{◌∙◌, ap}
use Rattle.object.specs.Replays.{kept}
use Rattle.agreement.proofs.order.OneOrder.{legal_for}
use Rattle.world.proofs.world.World.order.Goals as goal

pub returns-clause-legal : goal.returns-clause-legal
returns-clause-legal g c =
    legal_for g.O.Object.rules c.args.self.now c.in_ok-order.order.items c.show_agreement.ensures.one_order
    (c.in_ok-chosen.chosen.items, c.in_ok-chosen.ensures, c.in_ok-order.ensures ∙ ap kept c.as_slice.ensures.value)
