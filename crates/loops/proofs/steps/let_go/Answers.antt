use Rattle.std.proofs.Common.{◌<◌, ap, refl, arith}
use Rattle.forgetting_hall.specs.Rests.{HallRest}
use Rattle.loops.proofs.steps.let_go.Goals as goal

pub returns-then-session-ne0 : goal.returns-then-session-ne0
returns-then-session-ne0 g c =
    let h = c.args.hall.now in
    let does = c.let_go.ensures in
    let other : 0 < c.args.session = let some = c.if-session-ne0.true in omega (arith, some) in
    record {
      submitted = ap (λ (q : HallRest _ _ _). q.summary.submitted) does.let_go;
      opened = ap (λ (q : HallRest _ _ _). q.opened) does.let_go;
      gathering = does.gathering;
      goes_on = record {
        tells = c.tells_in_order.ensures.stays h c.let_go.new.self does.still does.gathering;
        leads = c.leads_on.ensures.lets_go h c.let_go.new.self c.args.session other does.let_go does.still;
      };
    }

pub returns-else-session-ne0 : goal.returns-else-session-ne0
returns-else-session-ne0 g c = record {
  submitted = refl;
  opened = refl;
  gathering = refl;
  goes_on = record { tells = λ members told has. has; leads = c.leads_on.ensures.stays c.args.hall.now };
}
