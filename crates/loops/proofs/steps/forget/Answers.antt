use Rattle.loops.proofs.steps.forget.Goals as goal

pub returns-clause-goes_on : goal.returns-clause-goes_on
returns-clause-goes_on g c =
    let h = c.args.hall.now in
    let does = c.forget.ensures in
    record {
      tells = c.tells_in_order.ensures.stays h c.forget.new.self does.still does.gathering;
      leads = c.leads_on.ensures.forgets h c.forget.new.self does.forgotten does.still;
    }
