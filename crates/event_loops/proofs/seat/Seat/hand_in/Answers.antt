use Rattle.event_loops.proofs.HandingIn.{hands_on}
use Rattle.event_loops.proofs.seat.Seat.hand_in.Goals as goal

pub returns-clause-goes_on : goal.returns-clause-goes_on
returns-clause-goes_on g c =
    hands_on g.T.SessionTicket.keeping g.D.Desk.submits g.D.LoopDesk.leads g.D.LoopDesk.shows g.met.D.LoopDesk.stays
    g.met.D.LoopDesk.submits_on c.args.desk.now c.hand_in-ended.new.desk _ _ c.hand_in-ended.result c.hand_in-ended.ensures
