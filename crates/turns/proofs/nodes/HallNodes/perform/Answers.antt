use Rattle.turns.proofs.Idle.{calm_performing}
use Rattle.turns.proofs.nodes.HallNodes.perform.Goals as goal

pub returns-clause-calm : goal.returns-clause-calm
returns-clause-calm g c = calm_performing g.O.Object.rules c.args.self.now c.perform.new.self c.args.node c.perform.result c.perform.ensures.does c.perform.ensures.acts
