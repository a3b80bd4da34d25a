use Rattle.std.proofs.Common.{ap}
use Rattle.hall.specs.Halls.{HallState}
use Rattle.simulated_hall.proofs.Said.{opening_stands}
use Rattle.simulated_hall.proofs.simulated_hall.SimulatedHall.new.Goals as goal

pub returns-clause-stands : goal.returns-clause-stands
returns-clause-stands g c = opening_stands g.O.Object.rules c.args.members c.in_ok-new.field-0.hall
    c.in_ok-new.field-0.ticket c.in_ok-new.field-0.calls c.in_ok-new.ensures.hall c.in_ok-new.ensures.ticket

pub returns-clause-members : goal.returns-clause-members
returns-clause-members g c = ap (λ (h : HallState _ _). h.nodes.network.members) c.in_ok-new.ensures.hall
