use Rattle.object.specs.declared.command.Act.TheVariants.{Close}
use Rattle.forgetting_hall.specs.Handing.{next_of}
use Rattle.forgetting_hall.specs.Refusing.{refusal_of_submit}
use Rattle.forgetting_hall.proofs.Asking.{submit_room}
use Rattle.forgetting_hall.proofs.Told.{not_refused}
use Rattle.recovery.proofs.steps.close.Goals as goal

pub returns : goal.returns
returns g c =
    let none = not_refused (refusal_of_submit c.args.hall.now c.args.session Close 1) c.in_ok-submit.field-0
    (λ e is. c.in_ok-submit.ensures.ok.refused.refused e is) in
    c.tells_in_order.ensures.submits c.args.hall.now c.submit.new.self 1 (next_of c.args.hall.now c.args.session Close)
    (submit_room c.args.hall.now c.args.session Close 1 none) c.in_ok-submit.ensures.ok.event c.in_ok-submit.ensures.ok.gathering
