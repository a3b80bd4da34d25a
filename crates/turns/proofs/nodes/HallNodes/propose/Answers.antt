use Rattle.turns.proofs.Idle.{calm_proposing}
use Rattle.turns.proofs.nodes.HallNodes.propose.Goals as goal

pub returns-clause-calm : goal.returns-clause-calm
returns-clause-calm g c = calm_proposing g.O.Object.rules c.args.self.now c.propose.new.self c.args.node c.propose.result c.propose.ensures.does c.propose.ensures.acts
