use Rattle.std.proofs.Common.{refl}
use Rattle.loops.proofs.Keeping.{again_keeps, again_tells}
use Rattle.loops.proofs.steps.resubmit.Goals as goal

pub returns-clause-goes_on : goal.returns-clause-goes_on
returns-clause-goes_on g c =
    let h = c.args.hall.now in
    let z = c.resubmit.new.self in
    let does = c.resubmit.ensures in
    record {
      tells = again_tells g.O.Object.rules h z c.args.session c.args.node c.resubmit.result
          (λ d. c.tells_in_order.ensures.submits h z c.args.node d) does.event does.gathering does.refused;
      leads = c.leads_on.ensures.resubmits h z c.args.session c.args.node c.resubmit.result does.ok does.event does.refused;
    }

pub returns-clause-nothing_new : goal.returns-clause-nothing_new
returns-clause-nothing_new g c =
    again_keeps g.O.Object.rules c.args.hall.now c.resubmit.new.self c.args.session c.args.node (λ q. q.summary) (λ d. refl) c.resubmit.result
    c.resubmit.ensures.ok c.resubmit.ensures.refused

pub returns-clause-opened : goal.returns-clause-opened
returns-clause-opened g c =
    again_keeps g.O.Object.rules c.args.hall.now c.resubmit.new.self c.args.session c.args.node (λ q. q.opened) (λ d. refl) c.resubmit.result
    c.resubmit.ensures.ok c.resubmit.ensures.refused
