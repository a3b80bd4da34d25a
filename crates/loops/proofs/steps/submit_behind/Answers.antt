use Rattle.forgetting_hall.specs.Refusing.{refusal_of_keyed}
use Rattle.forgetting_hall.proofs.Asking.{keyed_room}
use Rattle.loops.proofs.Keeping.{takes_tells}
use Rattle.loops.proofs.steps.submit_behind.Goals as goal

pub returns-in-Some-clause-goes_on : goal.returns-in-Some-clause-goes_on
returns-in-Some-clause-goes_on g c =
    let h = c.args.hall.now in
    let z = c.hand_in.new.self in
    let command = c.in-Some.command in
    record {
      tells = takes_tells g.O.Object.rules h z c.args.node command (refusal_of_keyed h command.key c.args.node) c.hand_in.result
          (c.tells_in_order.ensures.submits h z c.args.node command) (keyed_room h command c.args.node) c.hand_in.ensures.ok;
      leads = c.leads_on.ensures.hands_in h z command c.args.node c.hand_in.result c.hand_in.ensures.ok;
    }

pub returns-in-None-clause-goes_on : goal.returns-in-None-clause-goes_on
returns-in-None-clause-goes_on g c = record { tells = λ members told has. has; leads = c.leads_on.ensures.stays c.args.hall.now }
