use Rattle.std.proofs.Common.{rules}
use Rattle.bean_words.specs.contracts.op.OpPartialEq.TheImpl.{ghosts}
use Rattle.bean_queue.specs.Queue.{QueueState}
use Rattle.bean_words.specs.declared.op.Op.{Op}
use Rattle.session.specs.Serving.{Closes}
use Rattle.simulated_hall.specs.OneClient.{Talk}
use Rattle.simulated_hall.specs.Standing.{StandsFor}
use Rattle.simulated_hall.specs.Stopping.{IsNotLetGo}
use Rattle.beanpax.specs.declared.simulation.Simulation.{Simulation}
use Rattle.bean_queue.specs.Effects.{queue_rules}
use Rattle.beanpax.specs.Simulations.{IsStoppedBy}
use Rattle.beanpax.proofs.Obeyed.{ClosesOf}
use Rattle.beanpax.proofs.Served.{served, served_partly, nothing_served}
use Rattle.beanpax.proofs.run.run_bytes_in.Goals as goal

abbrev Stands : Simulation → Talk QueueState → Type 0
Stands s = StandsFor (queue_rules ghosts.eq) s.hall

abbrev Stops : Simulation → Simulation → Op → Type 0
Stops old new op = IsStoppedBy ghosts.eq old.hall new.hall op

abbrev Ends : Closes Simulation
Ends = ClosesOf Stands (λ old new. IsNotLetGo ghosts.eq old.hall new.hall)

pub returns-in_err-simulation : goal.returns-in_err-simulation
returns-in_err-simulation g c = record {
  told = record {
    answers = search rules;
    breaks_off = nothing_served c.args.profile _ _ _ (c.front_item.ensures c.args.profile);
    streams = search rules;
  };
}

pub returns : goal.returns
returns g c = record {
  told = record {
    answers = served c.args.profile Stands Stops Ends c.in_ok-simulation.simulation c.serve_in.new.service _ _ c.serve_in.result
        c.in_ok-simulation.ensures.stands c.serve_in.ensures.told;
    breaks_off =
        served_partly c.args.profile Stands Stops Ends c.in_ok-simulation.simulation c.serve_in.new.service _ _ c.serve_in.result
        (c.front_item.ensures c.args.profile) c.in_ok-simulation.ensures.stands c.serve_in.ensures.told;
    streams = c.serve_in.ensures.streams;
  };
}
