use Rattle.std.proofs.Common.{true, [], sym, ap, subst, ◌∙◌}
use Rattle.forgetting_hall.specs.Halls.{ForgettingState}
use Rattle.forgetting_hall.specs.Telling.{HasTold}
use Rattle.recovery.proofs.recovery.begun.Goals as goal

pub returns : goal.returns
returns g c =
    let is = c.gather.ensures ∙ ap (λ (h : ForgettingState _ _ _). record h { gathering = record h.gathering { is_on = true } }) c.in_ok-hall.ensures in
    c.settle_all.ensures.goes_on.tells c.args.members [] (c.wake.ensures c.args.members [] (subst (λ h. HasTold g.O.Object.rules c.args.members h [])
    (sym is) (c.tells_in_order.ensures.opening c.args.members)))
