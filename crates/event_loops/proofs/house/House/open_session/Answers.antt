use Rattle.event_loops.proofs.Courses.{goes_further}
use Rattle.event_loops.proofs.house.House.open_session.Goals as goal

pub invariant_of-self-2 : goal.invariant_of-self-2
invariant_of-self-2 g c =
    goes_further g.D.LoopDesk.leads g.B.Beginning.began _ (g.D.LoopDesk.shows c.open_session.new.self) g.met.D.LoopDesk.further
    c.self.invariant c.open_session.ensures.goes_on
