use Rattle.std.proofs.Common.{nat_cmp}
use Rattle.session_store.proofs.TubeSets.{set-put, stays_but}
use Rattle.session_store.proofs.Enrolled.{same_session}
use Rattle.session_store.proofs.rolls.Rolls.take_from.Goals as goal

pub returns-in-Some-clause-stays : goal.returns-in-Some-clause-stays
returns-in-Some-clause-stays c =
    λ t x apart.
    set-put nat_cmp c.args.tube.now t x c.args.self.now.rolls
    (c.get_mut.follows.lender c.remove.new.self) c.in-Some.roll.now c.remove.new.self c.in-Some.ensures.value
    (c.get_mut.follows.holds c.remove.new.self)
    (λ same. stays_but nat_cmp same_session c.args.number x c.in-Some.roll.now c.remove.new.self (c.remove.ensures.updates.0 x) (apart same))
