use Rattle.std.proofs.Common.{◌≡◌, ◌∙◌, ◌+◌, ◌<◌, ap, subst, arith}
use Rattle.object.specs.declared.command.Act.TheVariants.{Close}
use Rattle.simulated_hall.specs.Standing.{SimulatedState}
use Rattle.simulated_hall.specs.Stopping.{RefusesAct, most_calls}
use Rattle.simulated_hall.proofs.simulated_hall.SimulatedHall.close.Goals as goal

some_left : 0 < most_calls
some_left = grind arith

pub returns-in-Err-Stopped-clause-once : goal.returns-in-Err-Stopped-clause-once
returns-in-Err-Stopped-clause-once g c = λ refuses.
    let same = c.loop.invariant.same ∙ ap (λ n. record c.args.self.now { calls = n }) (c.loop.invariant.first refuses) in
    subst (λ (s : SimulatedState _ _). RefusesAct g.O.Op.PartialEq.eq s.hall s.ticket Close → s.calls < most_calls
    → c.request.new.self ≡ record s { calls = s.calls + 1 }) same c.request.ensures.once refuses some_left
