use Rattle.forgetting.proofs.Exact.{one_exact}
use Rattle.cluster.proofs.catching_up.Histories.{snapshot_of, snapshot_stays}
use Rattle.cluster.proofs.catching_up.ComingBack.{host_catches_up, comes_back}
use Rattle.cluster.proofs.catching_up.Told.{every_tells}
use Rattle.cluster.proofs.laws.snapshots.Goals as goal

pub returns-clause-decided : goal.returns-clause-decided
returns-clause-decided g c = λ w is n s k e. (every_tells c.ballot_laws.ensures g.O.Object.rules w is).known n s k e

pub returns-clause-hands_on : goal.returns-clause-hands_on
returns-clause-hands_on g c = λ s n w is shows. snapshot_of c.ballot_laws.ensures g.O.Object.rules s n w is shows

pub returns-clause-stays : goal.returns-clause-stays
returns-clause-stays g c = λ slot object w v e is step snap.
    snapshot_stays c.ballot_laws.ensures g.O.Object.rules slot object w v e step snap

pub returns-clause-catches_up : goal.returns-clause-catches_up
returns-clause-catches_up g c = λ s n slot object w is shows snap older none room. host_catches_up c.ballot_laws.ensures
    (record {
      none = c.filter_remembers.ensures.none;
      done = c.filter_remembers.ensures.done;
      stale = c.filter_remembers.ensures.stale;
    })
    g.O.Object.rules (one_exact g.O.Object.rules g.O.Op.PartialEq.eq g.met.O.Object.same g.met.O.Op.Value.exact)
    s n slot object w is shows snap older none room

pub returns-clause-comes_back : goal.returns-clause-comes_back
returns-clause-comes_back g c = λ n d slot object w is member stored low snap room. comes_back c.ballot_laws.ensures
    (record {
      none = c.filter_remembers.ensures.none;
      done = c.filter_remembers.ensures.done;
      stale = c.filter_remembers.ensures.stale;
    })
    g.O.Object.rules (one_exact g.O.Object.rules g.O.Op.PartialEq.eq g.met.O.Object.same g.met.O.Op.Value.exact)
    n d slot object w is member stored low snap room
