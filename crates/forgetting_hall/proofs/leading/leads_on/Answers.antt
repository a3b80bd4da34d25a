use Rattle.std.proofs.Common.{refl}
use Rattle.forgetting_hall.specs.LeadingLaws.{leads_same, leads_stay, leads_trans}
use Rattle.forgetting_hall.proofs.Led.{submit_leads, tick_leads, keyed_leads, again_leads, act_leads}
use Rattle.forgetting_hall.proofs.Led.{letter_leads, lost_leads, repeat_leads, forget_leads, open_leads, open_as_leads, let_go_leads}
use Rattle.forgetting_hall.proofs.leading.leads_on.Goals as goal

pub returns-clause-stays : goal.returns-clause-stays
returns-clause-stays g c = λ h. leads_stay g.O.Object.rules h h refl

pub returns-clause-further : goal.returns-clause-further
returns-clause-further g c = λ x y z first then. leads_trans g.O.Object.rules x y z first then

pub returns-clause-gathers : goal.returns-clause-gathers
returns-clause-gathers g c = λ h z same. leads_same g.O.Object.rules h z same

pub returns-clause-submits : goal.returns-clause-submits
returns-clause-submits g c = λ h z session act n result takes.
    submit_leads g.O.Object.rules h z (λ w v e i s r. c.every_world.ensures.next w v e i s r) session act n result takes

pub returns-clause-ticks : goal.returns-clause-ticks
returns-clause-ticks g c = λ h z n result takes.
    tick_leads g.O.Object.rules h z (λ w v e i s r. c.every_world.ensures.next w v e i s r) n result takes

pub returns-clause-hands_in : goal.returns-clause-hands_in
returns-clause-hands_in g c = λ h z d n result takes.
    keyed_leads g.O.Object.rules h z (λ w v e i s r. c.every_world.ensures.next w v e i s r) d n result takes

pub returns-clause-resubmits : goal.returns-clause-resubmits
returns-clause-resubmits g c = λ h z session n result ok event refuses.
    again_leads g.O.Object.rules h z (λ w v e i s r. c.every_world.ensures.next w v e i s r) session n result ok event refuses

pub returns-clause-acts : goal.returns-clause-acts
returns-clause-acts g c = λ h z n d result ok event refuses.
    act_leads g.O.Object.rules h z (λ w v e i s r. c.every_world.ensures.next w v e i s r) n d result ok event refuses

pub returns-clause-receives : goal.returns-clause-receives
returns-clause-receives g c = λ h z n result ok event forgotten still refuses.
    letter_leads g.O.Object.rules h z (λ w v e i s r. c.every_world.ensures.next w v e i s r) n result ok event forgotten still refuses

pub returns-clause-loses : goal.returns-clause-loses
returns-clause-loses g c = λ h z n result is. lost_leads g.O.Object.rules h z n result is

pub returns-clause-repeats : goal.returns-clause-repeats
returns-clause-repeats g c = λ h z n result ok still refuses. repeat_leads g.O.Object.rules h z n result ok still refuses

pub returns-clause-forgets : goal.returns-clause-forgets
returns-clause-forgets g c = λ h z is still. forget_leads g.O.Object.rules h z is still

pub returns-clause-opens : goal.returns-clause-opens
returns-clause-opens g c = λ h z result is. open_leads g.O.Object.rules h z result is

pub returns-clause-opens_as : goal.returns-clause-opens_as
returns-clause-opens_as g c = λ h z session result is refused. open_as_leads g.O.Object.rules h z session result is refused

pub returns-clause-lets_go : goal.returns-clause-lets_go
returns-clause-lets_go g c = λ h z session apart is still. let_go_leads g.O.Object.rules h z session apart is still
