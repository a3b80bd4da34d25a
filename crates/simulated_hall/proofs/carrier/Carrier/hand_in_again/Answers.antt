use Rattle.std.proofs.Common.{ap}
use Rattle.hall.specs.Halls.{HallState}
use Rattle.simulated_hall.proofs.HandedIn.{either_way, still, ticks_again}
use Rattle.simulated_hall.proofs.carrier.Carrier.hand_in_again.Goals as goal

pub returns-then-key-eq0-clause-nothing : goal.returns-then-key-eq0-clause-nothing
returns-then-key-eq0-clause-nothing g c =
    still c.args.self.now.hall.nodes.past c.tick.new.self.nodes.past
    (either_way c.tick.result _ _ c.tick.new.self.nodes.past c.args.self.now.hall.nodes.past c.tick.ensures.ok c.tick.ensures.refused.err
    (ticks_again g.O.Object.rules c.args.self.now.hall c.tick.new.self 1 c.args.key c.if-key-eq0.true c.requires)
    (ap (λ (h : HallState _ _). h.nodes.past)))
