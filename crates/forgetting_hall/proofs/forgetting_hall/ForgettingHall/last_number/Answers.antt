use Rattle.std.proofs.Common.{◌≡◌, ◌<◌, ◌^◌, subst, rules, arith}
use Rattle.forgetting_hall.specs.Halls.{ForgettingState}
use Rattle.forgetting_hall.specs.Handing.{last_number_of}
use Rattle.forgetting_hall.proofs.Asking.{number_low}
use Rattle.forgetting_hall.proofs.forgetting_hall.ForgettingHall.last_number.Goals as goal

pub returns-in-Some-clause-low : goal.returns-in-Some-clause-low
returns-in-Some-clause-low g c =
    let low = number_low _ c.self.invariant c.args.session in
    let here : last_number_of c.args.self.now c.args.session < 2 ^ 62 =
    subst (λ (q : ForgettingState _ _ _). last_number_of q c.args.session < 2 ^ 62) c.self.view_is low in
    let same : c.key.result.number ≡ last_number_of c.args.self.now c.args.session = search rules in
    omega (arith, here, same)
