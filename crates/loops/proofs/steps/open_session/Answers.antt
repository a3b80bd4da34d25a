use Rattle.std.proofs.Common.{ap}
use Rattle.std.proofs.lemmas.Result.{on_ok_weaker}
use Rattle.forgetting_hall.specs.Rests.{HallRest}
use Rattle.loops.proofs.steps.open_session.Goals as goal

pub returns-clause-opened : goal.returns-clause-opened
returns-clause-opened g c = on_ok_weaker c.open_session.result (λ is. ap (λ (q : HallRest _ _ _). q.opened) is) c.open_session.ensures.ok.ok

pub returns-clause-goes_on : goal.returns-clause-goes_on
returns-clause-goes_on g c =
    let h = c.args.hall.now in
    let does = c.open_session.ensures.ok in
    record {
      tells = c.tells_in_order.ensures.stays h c.open_session.new.self does.still does.gathering;
      leads = c.leads_on.ensures.opens h c.open_session.new.self c.open_session.result does;
    }
