use Rattle.forgetting_hall.specs.Refusing.{refusal_of_keyed}
use Rattle.forgetting_hall.proofs.Asking.{keyed_room}
use Rattle.forgetting_hall.proofs.Told.{not_refused}
use Rattle.recovery.proofs.steps.hand_in.Goals as goal

pub returns : goal.returns
returns g c =
    let none = not_refused (refusal_of_keyed c.args.hall.now c.in_ok-copy.field-0.key 1) c.in_ok-hand_in.field-0
    (λ e is. c.in_ok-hand_in.ensures.ok.refused.refused e is) in
    c.tells_in_order.ensures.submits c.args.hall.now c.hand_in.new.self 1 c.in_ok-copy.field-0
    (keyed_room c.args.hall.now c.in_ok-copy.field-0 1 none) c.in_ok-hand_in.ensures.ok.event c.in_ok-hand_in.ensures.ok.gathering
