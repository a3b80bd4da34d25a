use Rattle.forgetting_hall.specs.Handing.{next_of}
use Rattle.forgetting_hall.specs.Refusing.{refusal_of_submit}
use Rattle.forgetting_hall.proofs.Asking.{submit_room}
use Rattle.loops.proofs.Keeping.{takes_tells}
use Rattle.loops.proofs.steps.submit.Goals as goal

pub returns-clause-goes_on : goal.returns-clause-goes_on
returns-clause-goes_on g c =
    let h = c.args.hall.now in
    let command = next_of h c.args.session c.args.act in
    record {
      tells = takes_tells g.O.Object.rules h c.submit.new.self c.args.node command (refusal_of_submit h c.args.session c.args.act c.args.node)
          c.submit.result (c.tells_in_order.ensures.submits h c.submit.new.self c.args.node command)
          (submit_room h c.args.session c.args.act c.args.node) c.submit.ensures.ok;
      leads = c.leads_on.ensures.submits h c.submit.new.self c.args.session c.args.act c.args.node c.submit.result c.submit.ensures.ok;
    }
