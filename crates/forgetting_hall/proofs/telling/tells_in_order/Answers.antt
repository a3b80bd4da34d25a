use Rattle.std.proofs.Common.{◌++◌, refl, sym, subst}
use Rattle.agreement.specs.Worlds.{opening}
use Rattle.forgetting_hall.specs.Halls.{rest_of_hall}
use Rattle.forgetting_hall.specs.Rests.{ShowsWorld}
use Rattle.forgetting_hall.proofs.Keeping.{opened_is}
use Rattle.forgetting_hall.proofs.Told.{stays_told, submit_told, act_told, receive_told, take_told}
use Rattle.forgetting_hall.proofs.telling.tells_in_order.Goals as goal

pub returns-clause-opening : goal.returns-clause-opening
returns-clause-opening g c = λ members. record {
  has_members = refl;
  gathers = refl;
  world = opening members;
  reachable = c.every_world.ensures.opening members;
  shown = subst (λ q. ShowsWorld g.O.Object.rules q (opening members)) (sym (opened_is g.O.Object.rules members)) (c.halls_rest.ensures.opening members);
  took = c.effects_in_order.ensures.opening members;
}

pub returns-clause-stays : goal.returns-clause-stays
returns-clause-stays g c = λ h z still same. stays_told g.O.Object.rules h z still same

pub returns-clause-submits : goal.returns-clause-submits
returns-clause-submits g c = λ h z n d room follows same.
    submit_told g.O.Object.rules h z (λ w v e i s r. c.every_world.ensures.next w v e i s r)
    (λ w v e order i s took. c.effects_in_order.ensures.goes_on w v e order i s took) room n d follows same

pub returns-clause-acts : goal.returns-clause-acts
returns-clause-acts g c = λ h z n d room member own follows same.
    act_told g.O.Object.rules h z (λ w v e i s r. c.every_world.ensures.next w v e i s r)
    (λ w v e order i s took. c.effects_in_order.ensures.goes_on w v e order i s took) room
    (λ q w m e i s member own. c.effects_in_order.ensures.told q w m e i s member own) n d member own follows same

pub returns-clause-receives : goal.returns-clause-receives
returns-clause-receives g c = λ h z n l left room follows same.
    receive_told g.O.Object.rules h z (λ w v e i s r. c.every_world.ensures.next w v e i s r)
    (λ w v e order i s took. c.effects_in_order.ensures.goes_on w v e order i s took) room n l left follows same

pub returns-clause-takes : goal.returns-clause-takes
returns-clause-takes g c = λ h members told t. take_told g.O.Object.rules h members told t

pub returns-clause-counted : goal.returns-clause-counted
returns-clause-counted g c = λ h members told t.
    sym (c.effects_in_order.ensures.counted (rest_of_hall g.O.Object.rules h) t.world (told ++ h.gathering.commands) t.reachable t.shown t.took)
