use Rattle.bean_words.specs.contracts.op.OpPartialEq.TheImpl.{ghosts}
use Rattle.simulated_hall.specs.Standing.{StandsFor}
use Rattle.bean_queue.specs.Effects.{queue_rules}
use Rattle.beanpax.specs.Simulations.{IsStoppedBy}
use Rattle.beanpax.proofs.Obeyed.{obeys}
use Rattle.beanpax.proofs.simulation.SimulationService.ask.Goals as goal

pub returns-in-Ok : goal.returns-in-Ok
returns-in-Ok c =
    obeys ghosts.eq (StandsFor (queue_rules ghosts.eq) c.args.self.now.hall) (StandsFor (queue_rules ghosts.eq) c.ask.new.self)
    (IsStoppedBy ghosts.eq c.args.self.now.hall c.ask.new.self c.args.op) c.args.op c.in-Ok.reply c.in-Ok.ensures.reply c.in-Ok.ensures.stands
