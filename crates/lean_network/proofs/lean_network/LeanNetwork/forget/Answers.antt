use Rattle.lean_network.proofs.Forgetting.{forgotten_whole, all_past}
use Rattle.lean_network.proofs.lean_network.LeanNetwork.forget.Goals as goal

pub forget_each-requires : goal.forget_each-requires
forget_each-requires g c = all_past c.self.inside.nodes.items c.self.invariant g.O.Object.rules c.args.base c.args.self.now c.self.view_is c.requires

pub invariant_of-self : goal.invariant_of-self
invariant_of-self g c = forgotten_whole c.self.inside.nodes.items c.self.invariant c.args.base c.forget_each.new.nodes.items c.forget_each.ensures
